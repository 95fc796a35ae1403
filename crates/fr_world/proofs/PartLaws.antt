-- A part of an export, as frames come one after another: what of their records is in it.
use Rattle.std.proofs.Common.{◌≡◌, ◌∙◌, ◌++◌, ◌-◌, ℕ, zero, suc, Bool, true, false, cond, List, [], ◌∷◌, length, refl, sym, ap, append_assoc}
use Rattle.std.specs.Prelude.{nat_le}
use Rattle.fr_base.specs.Exports.{fitting, part_of}
use Rattle.fr_base.specs.declared.limits.TheConstants.{MAX_ROWS}
use Rattle.fr_world.specs.Parts.{begun, next_part, after, has_begun, in_part}
use Rattle.fr_world.specs.declared.part.Part.{Part}
use Rattle.fr_world.specs.declared.part.Part.TheVariants.{Filling, Ended}

chosen : (P : Part → Type 0) (t : Bool) (x y : Part) → (t ≡ true → P x) → (t ≡ false → P y) → P (cond t x y)
chosen P true x y h k = h refl
chosen P false x y h k = k refl

module _ {R : Type 0} where
  -- before the first frame all is still to come
  pub begun-all : (number : ℕ) (frames : List (List R)) → in_part (begun number) frames ≡ part_of number frames
  unfolding in_part begun part_of
  begun-all zero frames = refl
  begun-all (suc n) frames = refl

  none-in : (n : ℕ) → part_of {R = R} n [] ≡ []
  unfolding part_of fitting
  none-in zero = refl
  none-in (suc n) = none-in n

  -- behind the last frame there is nothing
  pub none-left : (part : Part) → in_part {R = R} part [] ≡ []
  unfolding in_part fitting
  none-left Ended = refl
  none-left (Filling zero room) = refl
  none-left (Filling (suc n) room) = none-in n

  fits : (room : ℕ) (records : List R) (rest : List (List R)) → nat_le (length records) room ≡ true →
      fitting room (records ∷ rest) ≡ (records ++ (fitting (room - length records) rest).0, (fitting (room - length records) rest).1)
  unfolding fitting
  fits room records rest h = ap (λ b. cond b (records ++ (fitting (room - length records) rest).0, (fitting (room - length records) rest).1) ([], records ∷ rest)) h

  stops : (room : ℕ) (records : List R) (rest : List (List R)) → nat_le (length records) room ≡ false → fitting room (records ∷ rest) ≡ ([], records ∷ rest)
  unfolding fitting
  stops room records rest h = ap (λ b. cond b (records ++ (fitting (room - length records) rest).0, (fitting (room - length records) rest).1) ([], records ∷ rest)) h

  -- a frame for which a part has no room at all ends it
  never : (n : ℕ) (records : List R) (rest : List (List R)) → nat_le (length records) MAX_ROWS ≡ false → part_of n (records ∷ rest) ≡ []
  unfolding part_of
  never zero records rest h = ap (λ f. f.0) (stops MAX_ROWS records rest h)
  never (suc n) records rest h = ap (λ f. part_of n f.1) (stops MAX_ROWS records rest h) ∙ never n records rest h

  -- what of a frame's records is in a part of which this is left behind it, and what of those that follow
  abbrev Goes : Part → List R → List (List R) → Part → Type 0
  Goes part records rest left = in_part part (records ∷ rest) ≡ cond (has_begun left) records [] ++ in_part left rest

  goes-next : (ahead room : ℕ) (records : List R) (rest : List (List R)) → nat_le (length records) room ≡ false → Goes (Filling ahead room) records rest (next_part ahead (length records))
  unfolding in_part next_part has_begun part_of
  goes-next zero room records rest full = ap (λ f. f.0) (stops room records rest full)
  goes-next (suc zero) room records rest full =
      chosen (Goes (Filling 1 room) records rest) (nat_le (length records) MAX_ROWS) _ _
      (λ h. ap (λ f. part_of zero f.1) (stops room records rest full) ∙ ap (λ f. f.0) (fits MAX_ROWS records rest h))
      (λ h. ap (λ f. part_of zero f.1) (stops room records rest full) ∙ never zero records rest h)
  goes-next (suc (suc n)) room records rest full =
      chosen (Goes (Filling (suc (suc n)) room) records rest) (nat_le (length records) MAX_ROWS) _ _
      (λ h. ap (λ f. part_of (suc n) f.1) (stops room records rest full) ∙ ap (λ f. part_of n f.1) (fits MAX_ROWS records rest h))
      (λ h. ap (λ f. part_of (suc n) f.1) (stops room records rest full) ∙ never (suc n) records rest h)

  goes-fitting : (ahead room : ℕ) (records : List R) (rest : List (List R)) → nat_le (length records) room ≡ true → Goes (Filling ahead room) records rest (Filling ahead (room - length records))
  unfolding in_part has_begun
  goes-fitting zero room records rest h = ap (λ f. f.0) (fits room records rest h)
  goes-fitting (suc n) room records rest h = ap (λ f. part_of n f.1) (fits room records rest h)

  -- the frame's records are in the part where it has begun then, and what follows is as for what is left
  pub goes : (part : Part) (records : List R) (rest : List (List R)) → Goes part records rest (after part (length records))
  unfolding after in_part has_begun
  goes Ended records rest = refl
  goes (Filling ahead room) records rest =
      chosen (Goes (Filling ahead room) records rest) (nat_le (length records) room) _ _
      (λ h. goes-fitting ahead room records rest h) (λ h. goes-next ahead room records rest h)

  -- where the records that the part took were appended, what was there with what is still to come of the part is as before
  pub taken : (part left : Part) (records : List R) (rest : List (List R)) (count : ℕ) (old new : List R) → left ≡ after part count → count ≡ length records → has_begun left ≡ true →
      new ≡ old ++ records → new ++ in_part left rest ≡ old ++ in_part part (records ∷ rest)
  taken part left records rest count old new is counted begun e =
      let same : left ≡ after part (length records) = is ∙ ap (after part) counted in
      ap (λ rs. rs ++ in_part left rest) e ∙ append_assoc old records (in_part left rest)
      ∙ ap (λ rs. old ++ rs) (ap (λ b. cond b records [] ++ in_part left rest) (sym begun) ∙ ap (λ l. cond (has_begun l) records [] ++ in_part l rest) same ∙ sym (goes part records rest))

  pub passed : (part left : Part) (records : List R) (rest : List (List R)) (count : ℕ) (old : List R) → left ≡ after part count → count ≡ length records → has_begun left ≡ false →
      old ++ in_part left rest ≡ old ++ in_part part (records ∷ rest)
  passed part left records rest count old is counted none =
      let same : left ≡ after part (length records) = is ∙ ap (after part) counted in
      ap (λ rs. old ++ rs) (ap (λ b. cond b records [] ++ in_part left rest) (sym none) ∙ ap (λ l. cond (has_begun l) records [] ++ in_part l rest) same ∙ sym (goes part records rest))
