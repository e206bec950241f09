-- What a word looks like, to the definitions and to `clap`.
use Rattle.std.proofs.Common.{◌≡◌, ◌∙◌, ◌||◌, ◌≤◌, ◌+◌, ◌==◌, ℕ, Bool, cond, not, true, false, [], ◌∷◌, codes, length, take, drop, nat_lt, Option, Some, None, refl, sym, ap, subst, arith, suc, eqb-true}
use Rattle.std.specs.List.{list_any, position_or_len}
use Rattle.std.specs.Str.{bytes_eq}
use Rattle.std.proofs.lemmas.List.{take_all}
use Rattle.std.proofs.lemmas.Bool.Decides.{nat_tests}
use Rattle.clap.specs.Lexer.{long_of, name_and_value, short_of}
use Rattle.ntfe_words.specs.CommandLine.{Text, Kind, kind_of, option_kind, option_cut, plain, whole, awaiting}
use Rattle.ntfe_words.proofs.Rows.{same_text}

pub data View (w : Text) : Type 0 where
  dashes : w ≡ 45 ∷ 45 ∷ [] → View w
  long : (x : ℕ) (xs : Text) → w ≡ 45 ∷ 45 ∷ x ∷ xs → View w
  short : (x : ℕ) (xs : Text) → (x == 45) ≡ false → w ≡ 45 ∷ x ∷ xs → View w
  bare : kind_of w ≡ plain → long_of w ≡ None → short_of w ≡ None → bytes_eq w (45 ∷ 45 ∷ []) ≡ false → View w

pub eq-swap : (x y : ℕ) → (x == y) ≡ false → (y == x) ≡ false
eq-swap x y e = grind (arith, nat_tests)

view-one : (x : ℕ) (b : Bool) → (x == 45) ≡ b → View (x ∷ [])
view-one x true e = subst (λ y. View (y ∷ [])) (sym (eqb-true _ _ e)) (bare refl refl refl refl)
view-one x false e = let f = eq-swap x 45 e in bare (rw (e, f) refl) (rw (e) refl) (rw (e) refl) (rw (e) refl)

view-two : (x y : ℕ) (ys : Text) (b : Bool) → (x == 45) ≡ b → View (x ∷ y ∷ ys)
view-two x y ys false e = let f = eq-swap x 45 e in bare (rw (e, f) refl) (rw (e) refl) (rw (e) refl) (rw (e) refl)
view-two x y ys true e = subst (λ z. View (z ∷ y ∷ ys)) (sym (eqb-true _ _ e)) (go y ys (y == 45) refl)
  where
    go : (y : ℕ) (ys : Text) (b : Bool) → (y == 45) ≡ b → View (45 ∷ y ∷ ys)
    go y ys false e = short y ys e refl
    go y [] true e = dashes (ap (λ z. 45 ∷ z ∷ []) (eqb-true _ _ e))
    go y (z ∷ zs) true e = long z zs (ap (λ u. 45 ∷ u ∷ z ∷ zs) (eqb-true _ _ e))

pub view : (w : Text) → View w
view [] = bare refl refl refl refl
view (x ∷ []) = view-one x (x == 45) refl
view (x ∷ y ∷ ys) = view-two x y ys (x == 45) refl

-- ---- what stands behind two dashes

pub data Long (t : Text) : Type 0 where
  flagged : t ≡ codes "stars" → Long t
  attached : (n v : Text) → kind_of (45 ∷ 45 ∷ t) ≡ whole (record { name = n; value = Some v }) → name_and_value t ≡ (n, Some v) → Long t
  waits : kind_of (45 ∷ 45 ∷ t) ≡ awaiting t → name_and_value t ≡ (t, None) → bytes_eq t (codes "stars") ≡ false → Long t

abbrev is_equals : ℕ → Bool
is_equals b = b == 61

any-place : (t : Text) → list_any (λ b. b == 61) t ≡ nat_lt (position_or_len (λ b. b == 61) t) (length t)
any-place [] = refl
any-place (x ∷ xs) = go (x == 61) (any-place xs)
  where
    go : (b : Bool) → list_any (λ b. b == 61) xs ≡ nat_lt (position_or_len (λ b. b == 61) xs) (length xs)
        → (b || list_any (λ b. b == 61) xs) ≡ nat_lt (cond (not b) (1 + position_or_len (λ b. b == 61) xs) 0) (suc (length xs))
    go true e = grind (arith, nat_tests)
    go false e = e ∙ grind (arith, nat_tests)

place-past : (t : Text) → nat_lt (position_or_len (λ b. b == 61) t) (length t) ≡ false → length t ≤ position_or_len (λ b. b == 61) t
place-past t e = grind (arith, nat_tests)

pub long-form : (x : ℕ) (xs : Text) → Long (x ∷ xs)
long-form x xs = by_name (bytes_eq (x ∷ xs) (codes "stars")) refl
  where
    t : Text
    t = x ∷ xs

    place : ℕ
    place = position_or_len (λ b. b == 61) t

    named : Bool → Text × Option Text
    named b = (take place t, cond b (Some (drop (place + 1) t)) None)

    cut : Bool → Kind
    cut b = option_cut t (cond b (Some place) None)

    by_place : bytes_eq t (codes "stars") ≡ false → (b : Bool) → nat_lt place (length t) ≡ b → kind_of (45 ∷ 45 ∷ t) ≡ option_kind t → Long t
    by_place other true e is = attached (take place t) (drop (place + 1) t) (is ∙ ap cut e) (ap named (any-place t ∙ e))
    by_place other false e is =
        let all : take place t ≡ t = take_all place t (place-past t e) in
        waits (is ∙ ap cut e) (ap named (any-place t ∙ e) ∙ ap (λ u. (u, None)) all) other

    by_name : (b : Bool) → bytes_eq t (codes "stars") ≡ b → Long t
    by_name true e = flagged (same_text t (codes "stars") e)
    by_name false e = by_place e (nat_lt place (length t)) refl (ap (λ b. cond b (whole (record { name = codes "stars"; value = None })) (option_kind t)) e)
