-- Laws: the exchanges that are a supplier's, those that ask nothing among them, are the same with
-- the register that holds it alone. A sound register is sound after each exchange. A connection
-- that asks nothing has the same reply from every register, unless its key is nobody's.
use Rattle.std.specs.Prelude.{◌≢◌, ℕ, List, take, drop}
use Rattle.fr_base.specs.Alone.{rows_of}
use Rattle.fr_base.specs.Book.{Book}
use Rattle.fr_base.specs.Cluster.{Cluster}
use Rattle.fr_base.specs.Sound.{IsSound}
use Rattle.fr_base.specs.declared.name.Name.{Name}
use Rattle.fr_base.specs.declared.refusal.Refusal.TheVariants.{UnknownKey}
use Rattle.fr_http.specs.Exchanges.{AreExchanged, Exchanged, IsReplied, own_exchanges}
use Rattle.fr_http.specs.declared.fault.Unasked.TheVariants.{Refused}

-- From a sound register connections were served, one after another. Some of the exchanges are the
-- supplier's; those that ask nothing are among them. The register that holds this supplier alone
-- begins with its rows and serves these connections alone. Then it has the same exchanges, with the
-- same bytes read and the same bytes written, and ends with the supplier's rows.
abbrev pub ExchangesAreAlone : Type 0
ExchangesAreAlone = (c : Cluster) (b last : Book) (xs : List Exchanged) (s : Name) →
    IsSound c b → AreExchanged c b xs last → AreExchanged c (rows_of s b) (own_exchanges s xs) (rows_of s last)

-- A sound register is sound after each connection: each front of the connections leads to a sound
-- book, and the rest of them are served from there.
abbrev pub ExchangesAreSoundThroughout : Type 0
ExchangesAreSoundThroughout = (c : Cluster) (b last : Book) (xs : List Exchanged) (n : ℕ) → IsSound c b → AreExchanged c b xs last →
    (mid : Book) × IsSound c mid × AreExchanged c b (take n xs) mid × AreExchanged c mid (drop n xs) last

-- A connection that asks nothing has the same reply from every register, unless its key is
-- nobody's.
abbrev pub UnaskedIsAlike : Type 0
UnaskedIsAlike = (c d : Cluster) (b e : Book) (x : Exchanged) (replied : IsReplied c b x) → replied.unasked ≢ Refused UnknownKey → IsReplied d e x
