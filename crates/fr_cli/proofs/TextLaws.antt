-- What was read of a text file, from what was read of its reader.
use Rattle.std.proofs.Common.{◌≡◌, ◌⊎◌, ◌≤◌, ℕ, List, take, vec_len, arith, inl, inr, subst, Option, Some, None, Result, Ok, Err, IfErr, IfOk, IfSome}
use Rattle.std.specs.Option.{option_map}
use Rattle.std.specs.Global.{Vec}
use Rattle.std.specs.Io.Take.{take_inner, take_limit, take_remaining}
use Rattle.std.specs.declared.io.Read as Read
use Rattle.std.specs.declared.io.traits.Take.{Take}
use Rattle.fr_cli.specs.Texts.{IsUnread, readings}
use Rattle.fr_cli.specs.declared.fault.Fault.{Fault}
use Rattle.fr_cli.specs.declared.fault.Fault.TheVariants.{CannotOpen, NoMemory}
use Rattle.fr_cli.specs.declared.files.text_files.TextFiles as TextFiles

-- what is known of a front is the front of what is known
front_known : (known : Option (List ℕ)) (most limit : ℕ) (text : List ℕ) → limit ≡ most → IfSome (option_map (take limit) known) (λ all. text ≡ all)
    → IfSome known (λ all. text ≡ take most all)
front_known None most limit text same given = tt
front_known (Some all) most limit text same given = subst (λ n. text ≡ take n all) same given

module _ {F R : Type 0} (files : TextFiles.Ghosts F R) (reader : Read.Ghosts R) where
  -- all that the reader had
  pub whole_read : (done : Result (Vec ℕ) Fault) (most : ℕ) (path : List ℕ) (old new : F) (input : R) → files.opens old path input new
      → IfOk done (λ text. IfSome (reader.remaining input) (λ all. text.items ≡ all)) → IfOk done (λ text. vec_len text ≤ most)
      → IfOk done (λ text. (readings files reader old new).whole most path text.items)
  whole_read (Ok text) most path old new input opened given few = record {
    input = input;
    opened = opened;
    given = given;
    few = omega (arith, text.ok.0, few);
  }
  whole_read (Err fault) most path old new input opened given few = tt

  -- a front of it
  pub front_read : (done : Result (Vec ℕ) Fault) (most : ℕ) (path : List ℕ) (old new : F) (front : Take R) → files.opens old path (take_inner front) new
      → take_limit front ≡ most → IfOk done (λ text. IfSome (take_remaining reader.remaining front) (λ all. text.items ≡ all))
      → IfOk done (λ text. vec_len text ≤ most) → IfOk done (λ text. (readings files reader old new).front most path text.items)
  front_read (Ok text) most path old new front opened limit given few = record {
    input = take_inner front;
    opened = opened;
    given = front_known (reader.remaining (take_inner front)) most (take_limit front) text.items limit given;
    few = omega (arith, text.ok.0, few);
  }
  front_read (Err fault) most path old new front opened limit given few = tt

  -- a file that was opened and not read
  pub unread : (done : Result (Vec ℕ) Fault) (path : List ℕ) (old new : F) (input : R) → files.opens old path input new
      → IfErr done (λ fault. (fault ≡ CannotOpen) ⊎ (fault ≡ NoMemory)) → IfErr done (IsUnread (readings files reader old new) path)
  unread (Ok text) path old new input opened cause = tt
  unread (Err fault) path old new input opened (inl cannot) = inl (cannot, inr (input, opened))
  unread (Err fault) path old new input opened (inr lacks) = inr (lacks, (input, opened))
