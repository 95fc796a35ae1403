-- Refusals: each refusal's number, name and HTTP status.
use Rattle.std.specs.Prelude.{ℕ, List, codes}
use Rattle.fr_base.specs.declared.refusal.Refusal.{Refusal}
use Rattle.fr_base.specs.declared.refusal.Refusal.TheVariants.{BadText, UnknownKey, NotYours, BadName, BadCycles, BadSlot, BadChannel, BadSignal, LabelUsed, NoVariant, Released, NotReleased, TooDeep, NoSupplier, NoNode, NoFrame, NoSignal, NoPlacement, Exists, NodeDiffers, NotGranted, InUse, Limit, Taken, CellTaken, OutOfPayload, BitTaken, Unavailable, BadKey, KeyTaken, NoRoom}

-- the table of refusals: the number, the name, and the reply's HTTP status; an import's refused row is number 29, BadRow, 422
abbrev pub row_of : Refusal → ℕ × List ℕ × ℕ
row_of BadText = (1, codes "BadText", 400)
row_of UnknownKey = (2, codes "UnknownKey", 401)
row_of NotYours = (3, codes "NotYours", 403)
row_of BadName = (4, codes "BadName", 422)
row_of BadCycles = (5, codes "BadCycles", 422)
row_of BadSlot = (6, codes "BadSlot", 422)
row_of BadChannel = (7, codes "BadChannel", 422)
row_of BadSignal = (8, codes "BadSignal", 422)
row_of LabelUsed = (9, codes "LabelUsed", 409)
row_of NoVariant = (10, codes "NoVariant", 404)
row_of Released = (11, codes "Released", 409)
row_of NotReleased = (12, codes "NotReleased", 409)
row_of TooDeep = (13, codes "TooDeep", 409)
row_of NoSupplier = (14, codes "NoSupplier", 404)
row_of NoNode = (15, codes "NoNode", 404)
row_of NoFrame = (16, codes "NoFrame", 404)
row_of NoSignal = (17, codes "NoSignal", 404)
row_of NoPlacement = (18, codes "NoPlacement", 404)
row_of Exists = (19, codes "Exists", 409)
row_of NodeDiffers = (20, codes "NodeDiffers", 409)
row_of NotGranted = (21, codes "NotGranted", 409)
row_of InUse = (22, codes "InUse", 409)
row_of Limit = (23, codes "Limit", 409)
row_of Taken = (24, codes "Taken", 409)
row_of (CellTaken cycle channel frame) = (25, codes "CellTaken", 409)
row_of OutOfPayload = (26, codes "OutOfPayload", 422)
row_of (BitTaken bit signal) = (27, codes "BitTaken", 409)
row_of Unavailable = (28, codes "Unavailable", 503)
row_of BadKey = (30, codes "BadKey", 422)
row_of KeyTaken = (31, codes "KeyTaken", 409)
row_of NoRoom = (32, codes "NoRoom", 409)

-- the refusal's number
abbrev pub number_of : Refusal → ℕ
number_of refusal = (row_of refusal).0

-- the refusal's name
abbrev pub name_of : Refusal → List ℕ
name_of refusal = (row_of refusal).1

-- the reply's HTTP status
abbrev pub status_of : Refusal → ℕ
status_of refusal = (row_of refusal).2
