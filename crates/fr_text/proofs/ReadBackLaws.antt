-- What is written for a request is read back.
use Rattle.std.proofs.Common.{◌≡◌, ◌^◌, Bool, true, false, ◌&&◌, Some, refl, IsTrue}
use Rattle.std.specs.Prelude.{nat_lt}
use Rattle.std.specs.List.{list_all}
use Rattle.fr_base.specs.declared.beginning.Beginning.TheVariants.{Empty, From, Flat}
use Rattle.fr_base.specs.declared.request.Request.{Request}
use Rattle.fr_base.specs.declared.request.Request.TheVariants.{OpenVariant, Release, AddSupplier, SetKey, AddNode, Grant, Revoke, AddFrame, DropFrame, Place, Unplace, AddSignal, DropSignal, Deliver, Query}
use Rattle.fr_base.specs.declared.delivery.Manner.TheVariants as manner
use Rattle.fr_base.specs.declared.delivery.Purpose.TheVariants as purpose
use Rattle.fr_base.specs.declared.query.Inventory.TheVariants.{Cluster, Variants, Nodes}
use Rattle.fr_base.specs.declared.query.Query.TheVariants.{Register as OfRegister, Variant as OfVariant, Difference as OfTwo}
use Rattle.fr_base.specs.declared.report.Report.TheVariants.{Grants, Frames, Schedule, Gaps, Layout, Load, Rows, Room, Export}
use Rattle.fr_base.specs.declared.import.Header.TheVariants as header
use Rattle.fr_base.specs.Forms.{form_of, forms}
use Rattle.fr_text.specs.Fields.{value_of, word_of, text, text_or_null, flag, number, as_whole, has_just, only, is_among}
use Rattle.fr_text.specs.RequestText.{integrators, of_frames, of_files, request_in, request_from, request_of}
use Rattle.fr_text.specs.Laws.{fields_of, numbers_of, WrittenIsReadBack}

-- what two tests say that both pass
both : (x y : Bool) → IsTrue (x && y) → (x ≡ true) × IsTrue y
both true y h = (refl, h)
both false y h = cc

-- the fields of a request are read as it
pub fields_read : (r : Request) → IsTrue (list_all (λ n. nat_lt n (2 ^ 32)) (numbers_of r)) → request_in (fields_of r) ≡ Some r
unfolding request_in form_of forms integrators of_frames of_files fields_of word_of text text_or_null flag number as_whole has_just only is_among
fields_read (OpenVariant v Empty) fit = refl
fields_read (OpenVariant v (From parent)) fit = refl
fields_read (OpenVariant v (Flat from)) fit = refl
fields_read (Release v) fit = refl
fields_read (AddSupplier s key) fit = refl
fields_read (SetKey s key) fit = refl
fields_read (AddNode s n) fit = refl
fields_read (Grant v k c s n) fit = rw (both (nat_lt k (2 ^ 32)) _ fit).0 refl
fields_read (Revoke v k c s) fit = rw (both (nat_lt k (2 ^ 32)) _ fit).0 refl
fields_read (AddFrame v f n) fit = refl
fields_read (DropFrame v f) fit = refl
fields_read (Place v f k c b r) fit =
    let first = both (nat_lt k (2 ^ 32)) _ fit in
    let second = both (nat_lt b (2 ^ 32)) _ first.1 in
    rw (first.0, second.0, (both (nat_lt r (2 ^ 32)) _ second.1).0) refl
fields_read (Unplace v f k c b r) fit =
    let first = both (nat_lt k (2 ^ 32)) _ fit in
    let second = both (nat_lt b (2 ^ 32)) _ first.1 in
    rw (first.0, second.0, (both (nat_lt r (2 ^ 32)) _ second.1).0) refl
fields_read (AddSignal v f x start length order) fit =
    let first = both (nat_lt start (2 ^ 32)) _ fit in
    rw (first.0, (both (nat_lt length (2 ^ 32)) _ first.1).0) refl
fields_read (DropSignal v f x) fit = refl
fields_read (Deliver v (purpose.Import label) body) fit = refl
fields_read (Deliver v (purpose.Replacement true) body) fit = refl
fields_read (Deliver v (purpose.Replacement false) body) fit = refl
fields_read (Deliver v (purpose.Trial manner.Import) body) fit = refl
fields_read (Deliver v (purpose.Trial (manner.Replace true)) body) fit = refl
fields_read (Deliver v (purpose.Trial (manner.Replace false)) body) fit = refl
fields_read (Deliver v (purpose.Proposal true) body) fit = refl
fields_read (Deliver v (purpose.Proposal false) body) fit = refl
fields_read (Query (OfRegister Cluster)) fit = refl
fields_read (Query (OfRegister Variants)) fit = refl
fields_read (Query (OfRegister Nodes)) fit = refl
fields_read (Query (OfVariant v Grants)) fit = refl
fields_read (Query (OfVariant v Frames)) fit = refl
fields_read (Query (OfVariant v Schedule)) fit = refl
fields_read (Query (OfVariant v Gaps)) fit = refl
fields_read (Query (OfVariant v (Layout f))) fit = refl
fields_read (Query (OfVariant v Load)) fit = refl
fields_read (Query (OfVariant v Rows)) fit = refl
fields_read (Query (OfVariant v (Room f r))) fit = rw (both (nat_lt r (2 ^ 32)) _ fit).0 refl
fields_read (Query (OfVariant v (Export header.Frames k))) fit = rw (both (nat_lt k (2 ^ 32)) _ fit).0 refl
fields_read (Query (OfVariant v (Export header.Placements k))) fit = rw (both (nat_lt k (2 ^ 32)) _ fit).0 refl
fields_read (Query (OfVariant v (Export header.Signals k))) fit = rw (both (nat_lt k (2 ^ 32)) _ fit).0 refl
fields_read (Query (OfTwo v from)) fit = refl

pub written_is_read_back : WrittenIsReadBack
unfolding request_of request_from value_of
written_is_read_back bytes request utf8 says fit = rw (utf8, says) (fields_read request fit)
