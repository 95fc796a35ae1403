-- Channels: a cluster has A, B or both, and so has a placement. How they are written.
use Rattle.std.specs.Prelude.{ℕ, Bool, true, false, List, [], ◌∷◌, codes, Option, Some, None, if◌then◌else◌}
use Rattle.fr_base.specs.Names.{same_text}
use Rattle.fr_base.specs.declared.channel.Channel.{Channel}
use Rattle.fr_base.specs.declared.channel.Channel.TheVariants as channel
use Rattle.fr_base.specs.declared.channel.Channels.{Channels}
use Rattle.fr_base.specs.declared.channel.Channels.TheVariants as channels

-- the channels that are meant, A before B
abbrev pub channels_in : Channels → List Channel
channels_in channels.A = channel.A ∷ []
channels_in channels.AB = channel.A ∷ channel.B ∷ []
channels_in channels.B = channel.B ∷ []

-- whether the channel is one of them
abbrev pub has_channel : Channels → Channel → Bool
has_channel channels.A channel.A = true
has_channel channels.A channel.B = false
has_channel channels.AB _ = true
has_channel channels.B channel.A = false
has_channel channels.B channel.B = true

-- A before B
abbrev pub channel_number : Channel → ℕ
channel_number channel.A = 0
channel_number channel.B = 1

-- A, then AB, then B
abbrev pub channels_number : Channels → ℕ
channels_number channels.A = 0
channels_number channels.AB = 1
channels_number channels.B = 2

-- how a channel is written
abbrev pub text_of_channel : Channel → List ℕ
text_of_channel channel.A = codes "A"
text_of_channel channel.B = codes "B"

-- how channels are written
abbrev pub text_of_channels : Channels → List ℕ
text_of_channels channels.A = codes "A"
text_of_channels channels.AB = codes "AB"
text_of_channels channels.B = codes "B"

-- the channel of this text
abbrev pub channel_of_text : List ℕ → Option Channel
channel_of_text text =
    if same_text text (codes "A") then Some channel.A
    else if same_text text (codes "B") then Some channel.B
    else None

-- the channels of this text
abbrev pub channels_of_text : List ℕ → Option Channels
channels_of_text text =
    if same_text text (codes "A") then Some channels.A
    else if same_text text (codes "AB") then Some channels.AB
    else if same_text text (codes "B") then Some channels.B
    else None
