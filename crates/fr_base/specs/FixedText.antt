-- How names and keys lie in memory: a text at the front of an array of a fixed length, and zeros behind it.
use Rattle.std.specs.Prelude.{◌≡◌, ℕ, ◌≤◌, ◌-◌, List, ◌++◌, length, take, replicate, IsUtf8}

-- the first `len` of the `n` bytes are a text, and the others are zero
pub record IsPadded (n : ℕ) (bytes : List ℕ) (len : ℕ) : Type 0 where
  pub within : len ≤ n
  pub full : length bytes ≡ n
  pub zeros : bytes ≡ take len bytes ++ replicate (n - len) 0
  pub utf8 : IsUtf8 (take len bytes)
