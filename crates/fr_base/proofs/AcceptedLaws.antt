-- What is proposed is accepted: the import of a proposal's records is done.
use Rattle.std.proofs.Common.{◌≡◌, ◌<◌, ◌∙◌, suc, false, List, [], ◌∷◌, map, length, Some, option_map, Result, Ok, IsTrue, refl, ap, inl, inr, arith}
use Rattle.std.specs.List.{list_all}
use Rattle.fr_base.specs.Tables.{get, len}
use Rattle.fr_base.specs.Keys.{owned}
use Rattle.fr_base.specs.Cells.{slots_of}
use Rattle.fr_base.specs.Channels.{channels_in, has_channel}
use Rattle.fr_base.specs.Cluster.{Cluster}
use Rattle.fr_base.specs.Book.{Frame, Variant, Book, is_of, own}
use Rattle.fr_base.specs.OwnRows.{own_rows}
use Rattle.fr_base.specs.Wishes.{wishes_of_body}
use Rattle.fr_base.specs.RefusedWishes.{Counted, counted_frames, frames_beside, asked_of}
use Rattle.fr_base.specs.Proposals.{proposal, proposal_of}
use Rattle.fr_base.specs.Sound.{IsSound}
use Rattle.fr_base.specs.ImportRows.{rows_of_body}
use Rattle.fr_base.specs.Step.{Outcome}
use Rattle.fr_base.specs.ProposalLaws.{records_told, ProposalIsImported}
use Rattle.fr_base.specs.declared.answer.Answer.TheVariants.{Imported}
use Rattle.fr_base.specs.declared.import.Row.{Row}
use Rattle.fr_base.specs.declared.import.RowRead.{RowRead}
use Rattle.fr_base.specs.declared.name.Name.{Name}
use Rattle.fr_base.specs.declared.refusal.Refusal.{Refusal}
use Rattle.fr_base.specs.declared.wish.Asked.{Asked}
use Rattle.fr_base.proofs.SoundTables.{get-passing}
use Rattle.fr_base.proofs.AloneTables.{get-each, len-each}
use Rattle.fr_base.proofs.AloneCells.{same_text-itself}
use Rattle.fr_base.proofs.ImportedFiles.{import-passes}
use Rattle.fr_base.proofs.AskedLines.{Member, body-numbered, judge-numbered}
use Rattle.fr_base.proofs.TurnOrder.{Pairs, each-of, of-each}
use Rattle.fr_base.proofs.GivenLaws.{the_judged, all_given, asked-by_line, wish-admitted}
use Rattle.fr_base.proofs.CertainLaws.{held-has, sound-count}
use Rattle.fr_base.proofs.GivenPlaces.{placed-stands, placed-apart}
use Rattle.fr_base.proofs.AcceptedRuns.{IsAlong, runs}

same-length : (reads : List RowRead) (rows : List Row) → map (λ r. r.row) reads ≡ map Ok rows → length reads ≡ length rows
same-length [] [] e = refl
same-length [] (r ∷ rows) e = cc
same-length (x ∷ reads) [] e = cc
same-length (x ∷ reads) (r ∷ rows) e = ap suc (same-length reads rows (ap rest e))
  where
    rest : List (Result Row Refusal) → List (Result Row Refusal)
    rest [] = []
    rest (x ∷ xs) = xs

pairs-of : {X : Type 0} (R S : X → X → Type 0) (xs : List X) → ((x y : X) → Member x xs → Member y xs → R x y → S x y) → Pairs R xs → Pairs S xs
pairs-of R S [] f h = tt
pairs-of R S (x ∷ xs) f h = (each-of (S x) xs (λ y at. f x y (inl refl) (inr at) (of-each (R x) xs y h.0 at)), pairs-of R S xs (λ y z at in_too. f y z (inr at) (inr in_too)) h.1)

-- the frames as they are at first count as they are
at-first : (c : Cluster) (b : Book) (s v : Name) (x : Variant) (sound : IsSound c b) (found : get b.variants v ≡ Some x) → IsAlong c.params b s v x (sound.variants v x found).1 [] (counted_frames (own s x.frames)) x.frames
unfolding counted_frames
at-first c b s v x sound found = record {
  old = λ k g r at h. inl (g, at, h);
  counts = λ f g at. (
    record { node = g.node; placements = len g.placements },
    get-each owned (λ (frame : Frame). record { node = frame.node; placements = len frame.placements }) (own s x.frames) (s, f) ∙ ap (option_map (λ (frame : Frame). record { node = frame.node; placements = len frame.placements })) (get-passing owned (is_of s) x.frames (s, f) (same_text-itself s) ∙ at),
    refl,
    omega arith,
  );
  few = let few = (sound.variants v x found).1.frame_limit s in let same = len-each {W = Counted} owned (λ (frame : Frame). record { node = frame.node; placements = len frame.placements }) (own s x.frames) in omega (arith, few, same);
}

pub accepted : ProposalIsImported
unfolding own_rows proposal proposal_of frames_beside
accepted c b s v x body file sound known found open_now are may =
    let mine = own_rows c.params b s x in
    let reads = wishes_of_body c.params body in
    let numbered = body-numbered c.params body in
    let count = sound-count c b sound in
    let fits : (a : Asked) → Member a (asked_of (the_judged mine false reads numbered.0 numbered.1)) → IsTrue (list_all (has_channel c.params.channels) (channels_in a.wish.channels)) =
    λ a at. held-has c b s v a.wish.node x a.wish.channels (slots_of c.params) sound found (wish-admitted mine false reads numbered.0 numbered.1 a at).1.held in
    let asked = asked_of (the_judged mine false reads numbered.0 numbered.1) in
    let given = all_given mine false reads numbered.0 numbered.1 in
    let run = runs c.params b s v x (sound.variants v x found).1 false given reads (counted_frames (own s x.frames)) [] x.frames (at-first c b s v x sound found)
    (each-of _ asked (λ a at q e. placed-stands mine reads numbered.0 numbered.1 count fits a q at e))
    (pairs-of (λ x y. x.line < y.line) _ asked (λ y z at in_too less q r e k. placed-apart mine reads numbered.0 numbered.1 count fits y z q r at in_too (λ same. omega (arith, less, same)) e k)
    (asked-by_line numbered.0 (the_judged mine false reads numbered.0 numbered.1) (judge-numbered mine (counted_frames (own s x.frames)) numbered.0 reads numbered.1)))
    tt (rows_of_body c.params file.body) are in
    ap (λ (o : Outcome). o.answer) (import-passes c b s v x open_now (sound.variants v x found).0 b x.frames run.0 file [] (record { nodes = refl; there = found; known = known }) may run.1)
    ∙ ap Imported (same-length (rows_of_body c.params file.body) (records_told (proposal mine false reads)) are)
