-- Register files: what a job says of a register's file. Its answer is a step from the book that the file held, and what
-- is left holds the book after it; what is read of it is that book's. Where nothing is printed for want of memory, what
-- is left holds the same book, or the one after its step. Or what is left holds the book of a new register, or the book that the file held in schema 1.
use Rattle.std.specs.Prelude.{◌≡◌, ℕ, List, Option, Some, Result, OnOk, ⊤}
use Rattle.sqlite.specs.Files.{IsCleanLeft}
use Rattle.sqlite.specs.declared.file.Leftover.{Leftover}
use Rattle.sqlite.specs.declared.file.Leftover.TheVariants as left
use Rattle.sqlite_disk.specs.declared.Disk.{Ghosts}
use Rattle.sqlite_disk.specs.declared.Files.{Files}
use Rattle.sqlite_wal.specs.Recovery.{Image}
use Rattle.fr_base.specs.Book.{Book, opening}
use Rattle.fr_base.specs.Cluster.{Cluster, ClusterFile, IsWellFormed}
use Rattle.fr_base.specs.declared.answer.Answer.{Answer}
use Rattle.fr_base.specs.declared.refusal.Refusal.{Refusal}
use Rattle.fr_base.specs.declared.request.Ask.{Ask}
use Rattle.fr_base.specs.declared.request.Request.{Request}
use Rattle.fr_desks.specs.FileDesk.{Held, IsLeftWith, LeavesBook}
use Rattle.fr_store.specs.Opened.{IsMigrated}
use Rattle.fr_store.specs.Opening.{AllowsCreation}
use Rattle.fr_cli.specs.Deliveries.{request_with}
use Rattle.fr_cli.specs.Keys.{IsKeyGiven}
use Rattle.fr_cli.specs.Opened.{IsLeftOf}
use Rattle.fr_cli.specs.Reading.{IsRead, Reading, Stays}
use Rattle.fr_cli.specs.SingleRequest.{IsAnswer, Leads, asked_with}
use Rattle.fr_cli.specs.Texts.{IsClusterAt, Readings, max_rows}
use Rattle.fr_cli.specs.declared.fault.Fault.{Fault}
use Rattle.fr_cli.specs.declared.words.delivery.Delivery.{Delivery}

module _ {D : Type 0} {g : Ghosts D} where
  -- The file was opened and closed. As long as nobody else wrote to it, it held a register; this was asked of the book that it held, and may be answered so;
  -- and what is left holds the book after it.
  abbrev pub IsAnswerOfFile : Image → Option (Leftover D g) → (Cluster → Book → Result Ask Refusal) → Answer → Type 0
  IsAnswerOfFile held rest asks answer =
      (last : Leftover D g) × IsLeftOf held rest last × IsAnswer asks (IsCleanLeft last) (Held held) (IsLeftWith last) answer

  -- So it is with what whoever has the key asks that is given.
  abbrev pub IsAnswerToGiven : Image → Option (Leftover D g) → List ℕ → Request → Option (List ℕ) → Option (List ℕ) → Answer → Type 0
  IsAnswerToGiven held rest word request input left answer =
      (key : List ℕ) × IsKeyGiven word input left key × IsAnswerOfFile held rest (asked_with key request) answer

  -- So it is with what was read of a file of rows, and is delivered.
  abbrev pub IsDeliveryToFile : Image → Option (Leftover D g) → Readings → Delivery → Option (List ℕ) → Option (List ℕ) → Answer → Type 0
  IsDeliveryToFile held rest read delivery input left answer = (body : List ℕ) × read.front max_rows delivery.file.now body
      × IsAnswerToGiven held rest delivery.key.now (request_with delivery body) input left answer

  -- So it is with what is read of the book; and what is left holds the same book.
  abbrev pub IsReadOfFile : {X : Type 0} → Image → Option (Leftover D g) → Reading X → Result X Refusal → Type 0
  IsReadOfFile held rest may read = (last : Leftover D g) × IsLeftOf held rest last × IsRead may (IsCleanLeft last) (Held held) (IsLeftWith last) read

  -- The file was opened and closed. As long as nobody else wrote to it, it held a register, and what is left holds the same book.
  abbrev pub StaysInFile : Image → Option (Leftover D g) → Type 0
  StaysInFile held rest = (last : Leftover D g) × IsLeftOf held rest last × Stays (IsCleanLeft last) (Held held) (IsLeftWith last)

  -- So it was; and what is left holds the same book, or the one after this was asked.
  abbrev pub LeadsInFile : Image → Option (Leftover D g) → (Cluster → Book → Result Ask Refusal) → Type 0
  LeadsInFile held rest asks = (last : Leftover D g) × IsLeftOf held rest last × Leads (IsCleanLeft last) (Held held) (IsLeftWith last) asks

  -- The files that are left hold the book of a new register of this cluster file. The file held no table before.
  abbrev pub IsLeftNew : Image → Option (Leftover D g) → ClusterFile → Type 0
  IsLeftNew held rest f = (files : Files D) × (rest ≡ Some (left.Files files)) × LeavesBook g files f.cluster (opening f)
      × (IsCleanLeft {g = g} (left.Files files) → AllowsCreation held)

  -- Where it was done, the cluster file at the path was read, is well formed, and such a register was made of it.
  abbrev pub IsCreated : Image → Option (Leftover D g) → Readings → List ℕ → Result ⊤ Fault → Type 0
  IsCreated held rest read path done = OnOk done ((f : ClusterFile) × IsClusterAt read path f × IsWellFormed f × IsLeftNew held rest f)

  -- Where it was done, the file held a register of schema 1, and what is left holds its book, after any crash too.
  abbrev pub IsMoved : Image → Option (Leftover D g) → Result ⊤ Fault → Type 0
  IsMoved held rest done = OnOk done ((last : Leftover D g) × (rest ≡ Some last) × (IsCleanLeft last → IsMigrated held last))
