-- Calls: what a call on an input or an output comes to, in a record.
use Rattle.std.specs.Prelude.{ℕ, ◌≡◌, List, Option}
use Rattle.std.specs.declared.io.Read as Read
use Rattle.std.specs.declared.io.Write as Write
use Rattle.fr_text.specs.declared.output.Output.{Output}
use Rattle.fr_http.specs.declared.input.Input.{Input}

-- A call reads of an input. This is so of the bytes that its reader had left, of those that it has left, and of what the call gives.
-- The input has the same reader still.
pub record ReadsFrom {R X : Type 0} (reader : Read.Ghosts R) (Does : Option (List ℕ) → Option (List ℕ) → X → Type 0) (old new : Input R) (given : X) : Type 0 where
  pub does : Does (reader.remaining old.reader.now) (reader.remaining new.reader.now) given
  pub same_reader : new.reader.ghost_name ≡ old.reader.ghost_name

-- A call writes to an output. This is so of the bytes that its writer held, of those that it holds, and of what the call gives. The
-- output has the same writer still.
pub record WritesTo {W X : Type 0} (writer : Write.Ghosts W) (Does : Option (List ℕ) → Option (List ℕ) → X → Type 0) (old new : Output W) (given : X) : Type 0 where
  pub does : Does (writer.contents old.writer.now) (writer.contents new.writer.now) given
  pub same_writer : new.writer.ghost_name ≡ old.writer.ghost_name

-- A call does both: this is so of the bytes that the reader had left and has left, of those that the writer held and holds, and of what the call
-- gives.
pub record ReadsAndWrites {R W X : Type 0} (reader : Read.Ghosts R) (writer : Write.Ghosts W)
    (Does : Option (List ℕ) → Option (List ℕ) → Option (List ℕ) → Option (List ℕ) → X → Type 0) (input left : Input R) (held now : Output W) (given : X) : Type 0 where
  pub does : Does (reader.remaining input.reader.now) (reader.remaining left.reader.now) (writer.contents held.writer.now) (writer.contents now.writer.now) given
  pub same_reader : left.reader.ghost_name ≡ input.reader.ghost_name
  pub same_writer : now.writer.ghost_name ≡ held.writer.ghost_name
