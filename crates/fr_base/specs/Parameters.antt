-- Parameters: the segments' macroticks are together the cycle's. The bounds of slots, payload, macroticks and the count
-- of cycles. Which fault comes first, and each fault's word.
use Rattle.std.specs.Prelude.{ℕ, ◌+◌, ◌*◌, ◌==◌, ◌||◌, not, nat_lt, List, codes, Result, Ok}
use Rattle.fr_base.specs.Cycles.{is_cycle_count}
use Rattle.fr_base.specs.Refusing.{◌>>◌, refuse◌when◌}
use Rattle.fr_base.specs.declared.limits.TheConstants.{MAX_PAYLOAD_WORDS}
use Rattle.fr_base.specs.declared.params.RawParams.{RawParams}
use Rattle.fr_base.specs.declared.params.ParamFault.{ParamFault}
use Rattle.fr_base.specs.declared.params.ParamFault.TheVariants.{BadSlots, BadPayload, BadMacroticks, BadSum, BadCycleCount}

-- the macroticks of a cycle's segments: static, dynamic, symbol window, network idle time
abbrev pub segments : RawParams → ℕ
segments p = p.static_slots * p.slot_macroticks + p.dynamic_macroticks + p.symbol_macroticks + p.idle_macroticks

-- the parameters, or the first fault
unfoldable pub check_params : RawParams → Result RawParams ParamFault
check_params p = do
  refuse BadSlots when (nat_lt p.static_slots 2 || nat_lt 1023 p.static_slots)
  refuse BadPayload when (nat_lt MAX_PAYLOAD_WORDS p.payload_words)
  refuse BadMacroticks when ((p.slot_macroticks == 0) || (p.idle_macroticks == 0) || nat_lt 16000 p.macroticks_per_cycle)
  refuse BadSum when (not (segments p == p.macroticks_per_cycle))
  refuse BadCycleCount when (not (is_cycle_count p.cycles))
  Ok p

-- the fault's word
abbrev pub word_of : ParamFault → List ℕ
word_of BadSlots = codes "BadSlots"
word_of BadPayload = codes "BadPayload"
word_of BadMacroticks = codes "BadMacroticks"
word_of BadSum = codes "BadSum"
word_of BadCycleCount = codes "BadCycleCount"
