-- The rows of a block of numbers, and what a write to one row leaves.
use Rattle.std.proofs.Common.{◌≡◌, ◌≢◌, ℕ, suc, ◌+◌, ◌-◌, ◌*◌, ◌<◌, ◌≤◌, ◌⊎◌, inl, inr, sym, ap, ◌∙◌, arith, ℤ, pos, List, ◌++◌, length, get_or, take, drop, mul-le-mul}
use Rattle.std.proofs.lemmas.List.{take_at, get_or_read, length-append, length-take-le, length-drop}
use Rattle.std.proofs.lemmas.List.Edits.{length-between, get_or-between}
use Rattle.std.proofs.lemmas.Slice.{between_is, between-put_mid, take-put_mid_below, drop-put_mid}
use borrow.Rule.Slice.PartMut.{put_mid}
use Rattle.strict_solver.specs.Grids.{row_at}

-- the rows before and after a row end before it and begin after it
pub row_before : (s q r : ℕ) → q < r → q * s + s ≤ r * s
row_before s q r h = let m : suc q * s ≤ r * s = mul-le-mul h (let e : s ≤ s = omega arith in e) in omega arith

pub row_length : (s : ℕ) (cells : List ℤ) (r : ℕ) → r * s + s ≤ length cells → length (row_at s cells r) ≡ s
row_length s cells r h = length-between cells (r * s) (r * s + s) h ∙ rest (r * s)
  where
    rest : (a : ℕ) → a + s - a ≡ s
    rest a = omega arith

pub row_number : (s : ℕ) (cells : List ℤ) (r k : ℕ) → k < s → get_or (row_at s cells r) k (pos 0) ≡ get_or cells (r * s + k) (pos 0)
row_number s cells r k h = get_or-between cells (r * s) (r * s + s) k (pos 0) (omega arith)

module _ (s : ℕ) (cells ys : List ℤ) (r : ℕ) (h : r * s + s ≤ length cells) (l : length ys ≡ s) where
  pub row_here : row_at s (put_mid (r * s) (r * s + s - r * s) cells ys) r ≡ ys
  row_here = between-put_mid (r * s) (r * s + s - r * s) cells ys (r * s + s) (omega arith) (omega arith)

  pub row_elsewhere : (q : ℕ) → q ≢ r → row_at s (put_mid (r * s) (r * s + s - r * s) cells ys) q ≡ row_at s cells q
  row_elsewhere q n = by (let c : (q < r) ⊎ (r < q) = grind arith in c)
    where
      by : (q < r) ⊎ (r < q) → row_at s (put_mid (r * s) (r * s + s - r * s) cells ys) q ≡ row_at s cells q
      by (inl i) =
          let b = row_before s q r i in
          between_is (put_mid (r * s) (r * s + s - r * s) cells ys) (q * s) (q * s + s)
          ∙ ap (drop (q * s)) (take-put_mid_below (r * s) (r * s + s - r * s) cells ys (q * s + s) b (omega arith))
          ∙ sym (between_is cells (q * s) (q * s + s))
      by (inr i) =
          let b = row_before s r q i in
          ap (take (q * s + s - q * s)) (drop-put_mid (r * s) (r * s + s - r * s) cells ys (q * s) (omega arith) (omega arith) (omega arith))

-- a block that was lent whole and comes back
pub lent_back : (n : ℕ) (xs items : List ℤ) → length xs ≡ n → take n (xs ++ drop (length xs) items) ≡ xs
lent_back n xs items e = take_at xs (drop (length xs) items) n e

pub put_length : (a k : ℕ) (xs ys : List ℤ) → a + k ≤ length xs → length ys ≡ k → length (put_mid a k xs ys) ≡ length xs
put_length a k xs ys h l =
    length-append (take a xs) (ys ++ drop k (drop a xs))
    ∙ (let t = length-take-le a xs (omega arith) in
    let d = length-append ys (drop k (drop a xs)) in
    let e = length-drop k (drop a xs) in
    let f = length-drop a xs in
    omega arith)

-- what was read at a place of a row
pub cell_read : (s : ℕ) (cells : List ℤ) (r k : ℕ) (z : ℤ) → k < s → r * s + s ≤ length cells → z ≡ get_or cells (r * s + k) z → z ≡ get_or (row_at s cells r) k (pos 0)
cell_read s cells r k z h l e = get_or_read cells (r * s + k) z (omega arith) e (pos 0) ∙ sym (row_number s cells r k h)
