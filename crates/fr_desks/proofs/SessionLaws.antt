-- Sessions lead from book to book.
use Rattle.std.proofs.Common.{inl, inr, List, [], ◌∷◌, ◌++◌, refl, subst, sym}
use Rattle.std.proofs.Math.Logic.{∥∥₁_elim, ∥∥₁_map}
use Rattle.sqlite_disk.specs.declared.Disk.{Ghosts}
use Rattle.sqlite_wal.specs.Recovery.{Image}
use Rattle.fr_base.specs.Book.{Book}
use Rattle.fr_base.specs.Cluster.{Cluster}
use Rattle.fr_base.specs.Run.{IsRun}
use Rattle.fr_base.specs.Sound.{IsSound}
use Rattle.fr_base.specs.declared.answer.Answer.{Answer}
use Rattle.fr_base.specs.declared.request.Ask.{Ask}
use Rattle.fr_desks.specs.FileDesk.{Held}
use Rattle.fr_desks.specs.Sessions.{AreAllOf, Session, SessionLeads, SessionsAreKept, WasDone}
use Rattle.fr_desks.proofs.FileDeskLemmas.{left_holds, one_of}
use Rattle.fr_office.specs.Crashed.{IsKept, IsOrNext, WasLacking}
use Rattle.fr_office.specs.Headline.{WereAnswered}
use Rattle.fr_office.proofs.CrashedLaws.{is_found, near_kept, were_kept}
use Rattle.fr_office.proofs.RunLaws.{runs_joined, were_answered}
use Rattle.fr_world.specs.Held.{Leaving, Standing}

-- where a desk stands for the book of its records, which a crash leaves
pub session_leads : {D Desk : Type 0} (g : Ghosts D) (warm stands : Desk → Standing) (leaves : Desk → Leaving)
    (serves clean : Desk → Type 0) (held : Image)
    → ((desk : Desk) (c : Cluster) (b : Book) → serves desk → warm desk c b → leaves desk c (b ∷ []))
    → ((desk : Desk) (c : Cluster) (b : Book) → stands desk c b → warm desk c b)
    → ((desk : Desk) (c : Cluster) (b : Book) → warm desk c b → IsKept (leaves desk c) c b → stands desk c b)
    → SessionLeads g warm stands leaves serves clean held
session_leads g warm stands leaves serves clean held settled parts whole first last session next finds is_clean up asked (files, are, inl (left, by)) c b there sound =
    let stood = parts first c b (finds is_clean c b there) in
    let kept = were_kept warm leaves c b first last session.asks session.answers asked stood sound (settled first c b up stood) in
    let now = whole last c kept.last kept.stands (near_kept (leaves last c) c b session.asks session.answers kept) in
    let holds = left_holds g files next c kept.last are (left c kept.last now) by in
    ∣ inl (were_answered (Held next c) c b session.asks session.answers sound (kept.last, inl holds, kept.run)) ∣₁
session_leads g warm stands leaves serves clean held settled parts whole first last session next finds is_clean up asked (files, are, inr (given, crash)) c b there sound =
    let stood = parts first c b (finds is_clean c b there) in
    let kept = were_kept warm leaves c b first last session.asks session.answers asked stood sound (settled first c b up stood) in
    ∥∥₁_map (given are next crash c kept.books kept.left) (λ one.
    let x = one_of c (IsOrNext c (WasLacking c b session.asks session.answers) kept.last) kept.books one.0 kept.each one.2 in
    is_found (Held next c) c b kept.last x.0 session.asks session.answers sound kept.run x.1 (inr (one.0, one.1, x.2)))

-- requests of a run, and those of one from where it led
joined : (c : Cluster) (b : Book) (now : Book → Type 0) (asks more : List Ask) (answers others : List Answer) (last : Book) → IsSound c b
    → IsRun c b asks answers last → WereAnswered now c last more others → WereAnswered now c b (asks ++ more) (answers ++ others)
joined c b now asks more answers others last sound run rest =
    were_answered now c b (asks ++ more) (answers ++ others) sound
    (rest.last, rest.stands, runs_joined c b last rest.last asks more answers others run rest.run)

-- what was done in a session, and behind it in the others
done_first : (held next : Image) (session done : Session) (more : List Session) (c : Cluster) (b : Book) → IsSound c b
    → WasDone c b session done → (was : WereAnswered (Held next c) c b done.asks done.answers)
    → ∥ ((rest : Session) × AreAllOf c was.last more rest.asks rest.answers × WereAnswered (Held held c) c was.last rest.asks rest.answers) ∥₁
    → ∥ ((all : Session) × AreAllOf c b (session ∷ more) all.asks all.answers × WereAnswered (Held held c) c b all.asks all.answers) ∥₁
done_first held next session done more c b sound how was later = ∥∥₁_map later (λ rest.
    let all : Session = record { asks = done.asks ++ rest.0.asks; answers = done.answers ++ rest.0.answers } in (
      all,
      (done, rest.0, was.last, how, was.run, rest.1, refl, refl),
      joined c b (Held held c) done.asks rest.0.asks done.answers rest.0.answers was.last sound was.run rest.2,
    ))

pub sessions_are_kept : SessionsAreKept
sessions_are_kept held last [] led c b there sound =
    let none : Session = record { asks = []; answers = [] } in
    ∣ (none, (refl, refl), were_answered (Held last c) c b [] [] sound (b, subst (λ image. Held image c b) (sym led) there, refl)) ∣₁
sessions_are_kept held last (session ∷ more) led c b there sound =
    ∥∥₁_elim (led.1 c b there sound) (hlevel) (λ found. elim found [
      | inl was ↦ done_first last led.0 session session more c b sound (inl refl) was
          (sessions_are_kept led.0 last more led.2 c was.last was.stands was.sound)
      | inr lacked ↦
          let done : Session = record { asks = session.asks ++ lacked.0 ∷ []; answers = session.answers ++ lacked.1 ∷ [] } in
          let was = lacked.3 in
          done_first last led.0 session done more c b sound (inr (lacked.0, lacked.1, lacked.2, refl)) was
          (sessions_are_kept led.0 last more led.2 c was.last was.stands was.sound)
    ])
