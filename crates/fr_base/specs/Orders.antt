-- How orders of keys are made of others, and that only equal keys tie in them.
use Rattle.std.specs.Prelude.{◌≡◌, ℕ, refl}
use Rattle.std.specs.declared.cmp.Ordering.{Ordering}
use Rattle.std.specs.declared.cmp.Ordering.TheVariants.{Less, Equal, Greater}
use Rattle.std.specs.Ordering.{nat_cmp, ordering_then, on, then_cmp}
use Rattle.std.specs.Cmp.{on_total, then_total, nat_cmp_total}
use Rattle.std.specs.FinMap.{nat_cmp-IsAntisymmetric}
use Rattle.fr_base.specs.Tables.{Order}
use Rattle.fr_base.specs.Channels.{channel_number, channels_number}
use Rattle.fr_base.specs.declared.channel.Channel.{Channel}
use Rattle.fr_base.specs.declared.channel.Channel.TheVariants as channel
use Rattle.fr_base.specs.declared.channel.Channels.{Channels}
use Rattle.fr_base.specs.declared.channel.Channels.TheVariants as channels

-- by a number, where no two have the same one
abbrev pub by_number : {K : Type 0} (f : K → ℕ) → ((x y : K) → f x ≡ f y → x ≡ y) → Order K
by_number f same = record { compare = on f nat_cmp; total = on_total f nat_cmp_total; exact = λ x y e. same x y (nat_cmp-IsAntisymmetric (f x) (f y) e) }

-- a tie of one order and then another is a tie of both
pub both_tie : (r s : Ordering) → ordering_then r s ≡ Equal → (r ≡ Equal) × (s ≡ Equal)
both_tie Less s e = (e, cc)
both_tie Equal s e = (refl, e)
both_tie Greater s e = (e, cc)

-- pairs, by the first part and then by the second
abbrev pub pairs_by : {K J : Type 0} → Order K → Order J → Order (K × J)
pairs_by o p = record {
  compare = then_cmp (on (λ k. k.0) o.compare) (on (λ k. k.1) p.compare);
  total = then_total (on_total (λ k. k.0) o.total) (on_total (λ k. k.1) p.total);
  exact = λ x y e. let tie = both_tie _ _ e in λ i. (o.exact x.0 y.0 tie.0 i, p.exact x.1 y.1 tie.1 i);
}

-- by another key, where no two have the same one
abbrev pub by_key : {K J : Type 0} (f : K → J) → ((x y : K) → f x ≡ f y → x ≡ y) → Order J → Order K
by_key f same o = record { compare = on f o.compare; total = on_total f o.total; exact = λ x y e. same x y (o.exact (f x) (f y) e) }

-- only equal channels have the same number
pub same_channel : (c d : Channel) → channel_number c ≡ channel_number d → c ≡ d
same_channel channel.A channel.A e = refl
same_channel channel.A channel.B e = cc
same_channel channel.B channel.A e = cc
same_channel channel.B channel.B e = refl

pub same_channels : (c d : Channels) → channels_number c ≡ channels_number d → c ≡ d
same_channels channels.A channels.A e = refl
same_channels channels.A channels.AB e = cc
same_channels channels.A channels.B e = cc
same_channels channels.AB channels.A e = cc
same_channels channels.AB channels.AB e = refl
same_channels channels.AB channels.B e = cc
same_channels channels.B channels.A e = cc
same_channels channels.B channels.AB e = cc
same_channels channels.B channels.B e = refl
