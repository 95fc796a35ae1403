use Rattle.std.proofs.Common.{◌∙◌, sym}
use Rattle.fr_world.specs.Pages.{own_rows_of}
use Rattle.fr_world.specs.Rooms.{is_free_alone}
use Rattle.fr_world.proofs.RoomLaws.{kept-none, kept-one}
use Rattle.fr_world.proofs.rooms.push_free.Goals as goal

pub returns-in_ok-push : goal.returns-in_ok-push
returns-in_ok-push c = kept-one (is_free_alone (own_rows_of c.args.page.now)) c.args.places.now _ c.args.placement (sym c.is_free.ensures ∙ c.if-is_free.true) c.in_ok-push.ensures.ok

pub returns-else-is_free : goal.returns-else-is_free
returns-else-is_free c = kept-none (is_free_alone (own_rows_of c.args.page.now)) c.args.places.now c.args.placement (sym c.is_free.ensures ∙ c.if-is_free.false)
