-- Delivery: a file that a supplier delivers, and the request for it: an import, a replacement, a trial, or a proposal.
use Rattle.std.specs.Prelude.{ℕ, List}
use Rattle.fr_base.specs.QueryNames.{purpose_with}
use Rattle.fr_base.specs.declared.request.Request.{Request}
use Rattle.fr_base.specs.declared.request.Request.TheVariants as request
use Rattle.fr_cli.specs.declared.words.delivery.Delivery.{Delivery}

-- the request that delivers a file with these bytes
abbrev pub request_with : Delivery → List ℕ → Request
request_with delivery body = request.Deliver delivery.variant.now (purpose_with (λ label. label.now) delivery.how) body
