-- Inquiry: what is asked of a register, and by whom.
use Rattle.std.specs.Prelude.{ℕ, List, Option, Some, None, if◌then◌else◌}
use Rattle.std.specs.Borrow.{Bor}
use Rattle.fr_base.specs.Names.{is_name}
use Rattle.fr_base.specs.QueryNames.{query_with}
use Rattle.fr_base.specs.declared.actor.Actor.{Actor}
use Rattle.fr_base.specs.declared.actor.Actor.TheVariants.{Integrator, Supplier}
use Rattle.fr_base.specs.declared.request.Request.{Request}
use Rattle.fr_base.specs.declared.request.Request.TheVariants as request
use Rattle.fr_cli.specs.declared.words.inquiry.Inquiry.{Inquiry}

-- who asks: the integrator where no supplier is named, else the supplier of this name; a text that is no name is nobody's
abbrev pub reader_named : Option (Bor (List ℕ)) → Option Actor
reader_named None = Some Integrator
reader_named (Some name) = if is_name name.now then Some (Supplier name.now) else None

abbrev pub reader_of : Inquiry → Option Actor
reader_of inquiry = reader_named inquiry.supplier

-- what is asked
abbrev pub request_for : Inquiry → Request
request_for inquiry = request.Query (query_with (λ name. name.now) (λ number. number) inquiry.query)
