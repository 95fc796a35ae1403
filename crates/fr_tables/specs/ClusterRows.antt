-- Cluster's rows: which parameters a row tells, except the count of cycles; when names and keys of
-- suppliers have their form.
use Rattle.std.specs.Prelude.{◌≡◌, pos, List, IsTrue}
use Rattle.std.specs.List.{list_all}
use Rattle.sqlite.specs.Order.{Row, column}
use Rattle.sqlite.specs.declared.types.Value.TheVariants.{Int, Text}
use Rattle.fr_base.specs.Channels.{text_of_channels}
use Rattle.fr_base.specs.declared.params.RawParams.{RawParams}
use Rattle.fr_base.specs.declared.config.Supplier.{Supplier}
use Rattle.fr_base.specs.Names.{is_name, is_key}
use Rattle.fr_tables.specs.Statements.{shows_supplier}
use Rattle.fr_tables.specs.Filling.{supplier_row}

-- the first eight columns say these parameters, except the count of cycles
pub record TellsParams (r : Row) (p : RawParams) : Type 0 where
  pub static_slots : column r 0 ≡ Int (pos p.static_slots)
  pub slot_macroticks : column r 1 ≡ Int (pos p.slot_macroticks)
  pub dynamic_macroticks : column r 2 ≡ Int (pos p.dynamic_macroticks)
  pub symbol_macroticks : column r 3 ≡ Int (pos p.symbol_macroticks)
  pub idle_macroticks : column r 4 ≡ Int (pos p.idle_macroticks)
  pub macroticks_per_cycle : column r 5 ≡ Int (pos p.macroticks_per_cycle)
  pub payload_words : column r 6 ≡ Int (pos p.payload_words)
  pub channels : column r 7 ≡ Text (text_of_channels p.channels)

abbrev pub shown_supplier : Supplier → Row
shown_supplier s = shows_supplier (supplier_row s)

-- each name and each key has its form
abbrev pub AreFormed : List Supplier → Type 0
AreFormed list = IsTrue (list_all (λ s. is_name s.name) list) × IsTrue (list_all (λ s. is_key s.key) list)
