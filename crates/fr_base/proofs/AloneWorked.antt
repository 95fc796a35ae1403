-- What is one supplier's, computed on small registers.
use Rattle.std.proofs.Common.{◌≡◌, ℕ, true, false, List, get_or, [], ◌∷◌, ◌++◌, Some, None, map, refl, codes}
use Rattle.std.specs.Prelude.{⊤, ◌+◌, ◌/◌, ◌%◌, nat_lt, if◌then◌else◌}
use Rattle.std.specs.List.{range_with_len}
use Rattle.fr_base.specs.Tables.{each}
use Rattle.fr_base.specs.Book.{opening}
use Rattle.fr_base.specs.Actors.{actor_of}
use Rattle.fr_base.specs.KeyLaws.{was_set}
use Rattle.fr_base.specs.Alone.{own_variant, rows_of, asks_of, answers_of, alone, answers_to, book_after}
use Rattle.fr_base.specs.declared.answer.Answer.{Answer}
use Rattle.fr_base.specs.declared.answer.Answer.TheVariants.{Done, Refused}
use Rattle.fr_base.specs.declared.channel.Channel.TheVariants as ch
use Rattle.fr_base.specs.declared.refusal.Refusal.TheVariants.{UnknownKey, Limit, Taken, Unavailable, KeyTaken}
use Rattle.fr_base.specs.declared.actor.Actor.TheVariants.{Integrator, Supplier}
use Rattle.fr_base.specs.declared.request.Ask.{Ask}
use Rattle.fr_base.specs.declared.beginning.Beginning.TheVariants.{Empty}
use Rattle.fr_base.specs.declared.request.Request.TheVariants.{OpenVariant, AddSupplier, SetKey, AddNode, Grant, AddFrame, Place, Query}
use Rattle.fr_base.specs.declared.query.Query.TheVariants.{Variant as OfVariant}
use Rattle.fr_base.specs.declared.report.Report.TheVariants.{Schedule}
use Rattle.fr_base.proofs.WorkedRows.{file, full_file, answers, a_small_register, integrator, s1, s2, s3, Sent}

-- what the rows below unfold
unfoldable a_register_alone : ⊤
unfolding a_small_register each own_variant rows_of
a_register_alone = tt

-- the requests that are the supplier's
abbrev pub asks_for : List ℕ → List Ask → List Ask
asks_for s asks = asks_of s asks (answers asks)

-- their answers
abbrev pub answers_for : List ℕ → List Ask → List Answer
answers_for s asks = answers_of s asks (answers asks)

-- the answers of a new register that holds the supplier alone
abbrev pub answers_alone : List ℕ → List Ask → List Answer
answers_alone s asks = answers_to file.cluster (opening (alone s file)) asks

-- a variant, a node of `s1`, a grant to it, a frame, and its placement in the first cycle
unfoldable pub planned : List Ask
planned =
    integrator (OpenVariant (codes "v1") Empty)
    ∷ integrator (AddNode (codes "s1") (codes "n1"))
    ∷ integrator (Grant (codes "v1") 1 (codes "A") (codes "s1") (codes "n1"))
    ∷ s1 (AddFrame (codes "v1") (codes "f1") (codes "n1"))
    ∷ s1 (Place (codes "v1") (codes "f1") 1 (codes "A") 0 64)
    ∷ []

-- the schedule of `s1`
unfoldable pub asked : List Ask
asked = s1 (Query (OfVariant (codes "v1") Schedule)) ∷ []

unfoldable pub answered : List Answer
answered =
    Done ∷ Done ∷ Done ∷ Done ∷ Done
    ∷ Sent false (record { cycle = 0; slot = 1; channel = ch.A; frame = codes "f1"; node = codes "n1"; supplier = codes "s1" } ∷ [])
    ∷ []

-- `f1`, `f2`, ..
abbrev pub numbered : ℕ → List ℕ
numbered n =
    102
    ∷ (if nat_lt n 10 then (48 + n) ∷ []
    else if nat_lt n 100 then (48 + (n / 10)) ∷ (48 + (n % 10)) ∷ []
    else (48 + (n / 100)) ∷ (48 + ((n / 10) % 10)) ∷ (48 + (n % 10)) ∷ [])

-- others' lines: a node of `s2`, grants of what `s1` holds and of the other channel, and more frames than a supplier may have
unfoldable pub between : ℕ → List Ask
between count =
    integrator (AddNode (codes "s2") (codes "n2"))
    ∷ integrator (Grant (codes "v1") 1 (codes "A") (codes "s2") (codes "n2"))
    ∷ integrator (Grant (codes "v1") 1 (codes "B") (codes "s2") (codes "n2"))
    ∷ map (λ n. s2 (AddFrame (codes "v1") (numbered n) (codes "n2"))) (range_with_len 1 count)

-- all of the first script is the supplier's
pub the_first_script_alone :
    (asks_for (codes "s1") (planned ++ asked) ≡ planned ++ asked)
    × (answers_for (codes "s1") (planned ++ asked) ≡ answered)
    × (answers_alone (codes "s1") (planned ++ asked) ≡ answered)
unfolding a_register_alone planned asked answered
the_first_script_alone = (refl, refl, refl)

-- others' lines between change nothing for `s1`; the last of them is refused
pub strangers_lines_between :
    (asks_for (codes "s1") (planned ++ between 257 ++ asked) ≡ planned ++ asked)
    × (answers_for (codes "s1") (planned ++ between 257 ++ asked) ≡ answered)
    × (get_or (answers (planned ++ between 257)) 263 (Refused Limit) ≡ Done)
    × (get_or (answers (planned ++ between 257)) 264 Done ≡ Refused Limit)
unfolding a_register_alone planned asked answered between
strangers_lines_between = (refl, refl, refl, refl)

-- `s2` is refused what `s1` holds, and alone it is not
pub taken_beside :
    (answers (planned ++ between 2) ≡ Done ∷ Done ∷ Done ∷ Done ∷ Done ∷ Done ∷ Refused Taken ∷ Done ∷ Done ∷ Done ∷ [])
    × (answers_alone (codes "s2") (integrator (OpenVariant (codes "v1") Empty) ∷ between 2) ≡ Done ∷ Done ∷ Done ∷ Done ∷ Done ∷ Done ∷ [])
unfolding a_register_alone planned asked answered between
taken_beside = (refl, refl)

-- what a supplier asked before it joined is UnknownKey alone too
unfoldable pub s3_joins : List Ask
s3_joins =
    s3 (Query (OfVariant (codes "v1") Schedule))
    ∷ integrator (AddSupplier (codes "s3") (codes "supplier01"))
    ∷ integrator (AddSupplier (codes "s3") (codes "supplier03"))
    ∷ integrator (OpenVariant (codes "v1") Empty)
    ∷ s3 (Query (OfVariant (codes "v1") Schedule))
    ∷ []

pub joined_alone :
    (answers s3_joins ≡ Refused UnknownKey ∷ Refused KeyTaken ∷ Done ∷ Done ∷ Sent false [] ∷ [])
    × (answers_for (codes "s3") s3_joins ≡ Refused UnknownKey ∷ Done ∷ Done ∷ Sent false [] ∷ [])
    × (answers_alone (codes "s3") (asks_for (codes "s3") s3_joins) ≡ answers_for (codes "s3") s3_joins)
unfolding a_register_alone s3_joins
joined_alone = (refl, refl, refl)

-- a key that another supplier has, and the limit of 64 suppliers, refuse a supplier beside the others, and alone they do not
pub refused_beside :
    (answers (integrator (AddSupplier (codes "s3") (codes "supplier01")) ∷ []) ≡ Refused KeyTaken ∷ [])
    × (answers_alone (codes "s3") (integrator (AddSupplier (codes "s3") (codes "supplier01")) ∷ []) ≡ Done ∷ [])
    × (answers_to file.cluster (opening full_file) (integrator (AddSupplier (codes "s99") (codes "supplier99")) ∷ []) ≡ Refused Limit ∷ [])
    × (answers_to file.cluster (opening (alone (codes "s99") full_file)) (integrator (AddSupplier (codes "s99") (codes "supplier99")) ∷ []) ≡ Done ∷ [])
unfolding a_register_alone full_file
refused_beside = (refl, refl, refl, refl)

-- another supplier's key refuses a supplier that is to have it, and alone it does not; its own refuses it alone too
pub keyed_beside :
    (answers (integrator (SetKey (codes "s1") (codes "supplier02")) ∷ integrator (SetKey (codes "s1") (codes "supplier01")) ∷ []) ≡ Refused KeyTaken ∷ Refused KeyTaken ∷ [])
    × (answers_alone (codes "s1") (integrator (SetKey (codes "s1") (codes "supplier01")) ∷ integrator (SetKey (codes "s1") (codes "supplier02")) ∷ []) ≡ Refused KeyTaken ∷ Done ∷ [])
unfolding a_register_alone
keyed_beside = (refl, refl)

-- a SetKey of `s1` that is refused, and then one that is done
unfoldable pub sets_keys : List Ask
sets_keys =
    integrator (SetKey (codes "s1") (codes "supplier02"))
    ∷ integrator (SetKey (codes "s1") (codes "supplier09"))
    ∷ []

-- so the key of `s1` was set, once the second was answered, and no other; then the old key of `s1` is nobody's, and that of `s2` is its own
pub keys_were_set :
    (answers sets_keys ≡ Refused KeyTaken ∷ Done ∷ [])
    × (map (λ actor. was_set actor sets_keys (answers sets_keys)) (Supplier (codes "s1") ∷ Supplier (codes "s2") ∷ Integrator ∷ []) ≡ true ∷ false ∷ false ∷ [])
    × (was_set (Supplier (codes "s1")) sets_keys (Refused KeyTaken ∷ Refused Unavailable ∷ []) ≡ false)
    × (map (actor_of file.cluster (book_after file.cluster (opening file) sets_keys)) (codes "supplier01" ∷ codes "supplier02" ∷ codes "supplier09" ∷ [])
    ≡ None ∷ Some (Supplier (codes "s2")) ∷ Some (Supplier (codes "s1")) ∷ [])
unfolding a_register_alone sets_keys actor_of
keys_were_set = (refl, refl, refl, refl)

-- `s3` joins, is granted a slot, and has a frame sent there
unfoldable pub joins_and_sends : List Ask
joins_and_sends =
    integrator (AddSupplier (codes "s3") (codes "supplier03"))
    ∷ integrator (AddNode (codes "s3") (codes "m1"))
    ∷ integrator (Grant (codes "v1") 2 (codes "A") (codes "s3") (codes "m1"))
    ∷ s3 (AddFrame (codes "v1") (codes "f1") (codes "m1"))
    ∷ s3 (Place (codes "v1") (codes "f1") 2 (codes "A") 0 1)
    ∷ []

-- `s1` is asked, is answered and has the same, whether `s3` joins or not
pub a_joiner_between :
    (answers (planned ++ joins_and_sends) ≡ Done ∷ Done ∷ Done ∷ Done ∷ Done ∷ Done ∷ Done ∷ Done ∷ Done ∷ Done ∷ [])
    × (asks_for (codes "s1") (planned ++ joins_and_sends ++ asked) ≡ asks_for (codes "s1") (planned ++ asked))
    × (answers_for (codes "s1") (planned ++ joins_and_sends ++ asked) ≡ answers_for (codes "s1") (planned ++ asked))
    × ((rows_of (codes "s1") (book_after file.cluster (opening file) (planned ++ joins_and_sends))).variants.rows
    ≡ (rows_of (codes "s1") (book_after file.cluster (opening file) planned)).variants.rows)
unfolding a_register_alone planned joins_and_sends asked
a_joiner_between = (refl, refl, refl, refl)
