-- Places cut at the end of their key: what lies in a cone or under a head, and how a cone is parted.
use Rattle.std.proofs.Common.{◌≡◌, ◌∙◌, refl, sym, ap, subst, ◌⊎◌, inl, inr, ⊎_elim, ℕ, suc, ◌+◌, ◌-◌, ◌<◌, ◌≤◌, List, [], ◌∷◌, ◌++◌, length, take, drop, get_or, replicate, arith, append_assoc, length-append, length-drop, drop-cons}
use Rattle.std.specs.Prelude.{slice_index}
use Rattle.std.proofs.Math.Seq.{take-append_seam}
use Rattle.std.proofs.lemmas.List.{take-append-drop, length-take-le, length-replicate, take_at, get_or-append_right, append_cancel_left}
use Rattle.ntfe_model.specs.Lists.{IsBelow}
use Rattle.ntfe_model.specs.Keys.{stem, last_number}
use Rattle.ntfe_model.proofs.Orders.{below_once}
use Rattle.choice_board.specs.Places.{cone, under, IsIn, raised, first_under}
use Rattle.choice_board.proofs.KeyOrder.{below_at, below_longer, not_below_head}

-- ---- a key as its stem and its last number

none_from_length : (xs : List ℕ) → length xs ≡ 0 → xs ≡ []
none_from_length [] e = refl
none_from_length (x ∷ xs) e = absurd (omega arith)

pub stem_length : (key : List ℕ) → 1 ≤ length key → length (stem key) ≡ length key - 1
stem_length key h = length-take-le (length key - 1) key (omega arith)

pub key_parts : (key : List ℕ) → 1 ≤ length key → key ≡ stem key ++ last_number key ∷ []
key_parts key h =
    let j = length key - 1 in
    let inside : j < length key = omega arith in
    let rest : length (drop (suc j) key) ≡ 0 = omega (arith, length-drop (suc j) key) in
    sym (take-append-drop j key)
    ∙ ap (λ xs. take j key ++ xs) (drop-cons key j 0 inside ∙ ap (λ xs. last_number key ∷ xs) (none_from_length (drop (suc j) key) rest))

pub length_snoc : (s : List ℕ) (a : ℕ) → length (s ++ a ∷ []) ≡ length s + 1
length_snoc s a = length-append s (a ∷ [])

pub stem_snoc : (s : List ℕ) (a : ℕ) → stem (s ++ a ∷ []) ≡ s
stem_snoc s a = take_at s (a ∷ []) (length (s ++ a ∷ []) - 1) (let e = length_snoc s a in omega arith)

number_behind : (s xs : List ℕ) (a j : ℕ) → length s ≡ j → slice_index (s ++ a ∷ xs) j ≡ a
number_behind s xs a j e = get_or-append_right s (a ∷ xs) j j 0 e (omega arith) ∙ ap (λ i. get_or (a ∷ xs) i 0) (let z : j - j ≡ 0 = omega arith in z)

pub last_snoc : (s : List ℕ) (a : ℕ) → last_number (s ++ a ∷ []) ≡ a
last_snoc s a = number_behind s [] a (length (s ++ a ∷ []) - 1) (let e = length_snoc s a in omega arith)

pub raised_length : (key : List ℕ) → 1 ≤ length key → length (raised key) ≡ length key
raised_length key h = let e = length_snoc (stem key) (last_number key + 1) in let l = stem_length key h in omega arith

-- ---- what lies in a cone or under a head

pub cone_cut : (n : ℕ) (key c : List ℕ) → 1 ≤ length key → length key ≤ n → IsIn n (cone key) c
    → (m : ℕ) × (rest : List ℕ) × (c ≡ stem key ++ m ∷ rest) × (last_number key ≤ m)
cone_cut n key c some most p =
    let j = length key - 1 in
    let long : length c ≡ n = p.0 in
    let inside : j < length c = omega arith in
    (slice_index c j, drop (suc j) c, sym (take-append-drop j c) ∙ ap (λ xs. xs ++ drop j c) p.1 ∙ ap (λ xs. stem key ++ xs) (drop-cons c j 0 inside), p.2)

pub cone_join : (n : ℕ) (key c : List ℕ) (m : ℕ) (rest : List ℕ) → 1 ≤ length key → length c ≡ n → c ≡ stem key ++ m ∷ rest → last_number key ≤ m → IsIn n (cone key) c
cone_join n key c m rest some long e low =
    let j = length key - 1 in
    let l = stem_length key some in
    let at : slice_index c j ≡ m = ap (λ xs. slice_index xs j) e ∙ number_behind (stem key) rest m j l in
    (long, ap (take j) e ∙ take_at (stem key) (m ∷ rest) j l, omega arith)

pub under_cut : (n : ℕ) (head c : List ℕ) → IsIn n (under head) c → c ≡ head ++ drop (length head) c
under_cut n head c p = sym (take-append-drop (length head) c) ∙ ap (λ xs. xs ++ drop (length head) c) p.1

pub under_join : (n : ℕ) (head c rest : List ℕ) → length c ≡ n → c ≡ head ++ rest → IsIn n (under head) c
under_join n head c rest long e = (long, ap (take (length head)) e ∙ take-append_seam head rest)

-- the head followed by zeros, which lies under it
abbrev pub padded : ℕ → List ℕ → List ℕ
padded n head = head ++ replicate (n - length head) 0

pub padded_under : (n : ℕ) (head : List ℕ) → length head ≤ n → IsIn n (under head) (padded n head)
padded_under n head h =
    under_join n head (padded n head) (replicate (n - length head) 0)
    (let e : length (replicate {A = ℕ} (n - length head) 0) ≡ n - length head = length-replicate (n - length head) 0 in
    let f = length-append head (replicate {A = ℕ} (n - length head) 0) in
    omega arith)
    refl

-- ---- a cone is what lies under its key, and the cone of the raised key

-- with its last number, what is left of a list under a key
under_parts : (n : ℕ) (key c : List ℕ) → 1 ≤ length key → IsIn n (under key) c → c ≡ stem key ++ last_number key ∷ drop (length key) c
under_parts n key c some p =
    under_cut n key c p ∙ ap (λ xs. xs ++ drop (length key) c) (key_parts key some) ∙ append_assoc (stem key) (last_number key ∷ []) (drop (length key) c)

pub under_in : (n : ℕ) (key c : List ℕ) → 1 ≤ length key → IsIn n (under key) c → IsIn n (cone key) c
under_in n key c some p = cone_join n key c (last_number key) (drop (length key) c) some p.0 (under_parts n key c some p) (omega arith)

pub raised_in : (n : ℕ) (key c : List ℕ) → 1 ≤ length key → IsIn n (cone (raised key)) c → IsIn n (cone key) c
raised_in n key c some p =
    let l = raised_length key some in
    let a = stem_snoc (stem key) (last_number key + 1) in
    let b = last_snoc (stem key) (last_number key + 1) in
    let q : last_number (raised key) ≤ slice_index c (length (raised key) - 1) = p.2 in
    let same : slice_index c (length (raised key) - 1) ≡ slice_index c (length key - 1) = ap (λ i. slice_index c (i - 1)) l in
    (p.0, sym (ap (λ i. take (i - 1) c) l) ∙ p.1 ∙ a, omega arith)

pub cone_parts : (n : ℕ) (key c : List ℕ) → 1 ≤ length key → length key ≤ n → IsIn n (cone key) c → IsIn n (under key) c ⊎ IsIn n (cone (raised key)) c
cone_parts n key c some most p = by (cone_cut n key c some most p)
  where
    by : (m : ℕ) × (rest : List ℕ) × (c ≡ stem key ++ m ∷ rest) × (last_number key ≤ m) → IsIn n (under key) c ⊎ IsIn n (cone (raised key)) c
    by (m, rest, e, low) = ⊎_elim (λ same. inl (here same)) (λ more. inr (beyond more)) (let d : (m ≡ last_number key) ⊎ (last_number key + 1 ≤ m) = grind arith in d)
      where
        here : m ≡ last_number key → IsIn n (under key) c
        here same =
            under_join n key c rest p.0
            (e ∙ ap (λ a. stem key ++ a ∷ rest) same ∙ sym (append_assoc (stem key) (last_number key ∷ []) rest) ∙ ap (λ xs. xs ++ rest) (sym (key_parts key some)))

        beyond : last_number key + 1 ≤ m → IsIn n (cone (raised key)) c
        beyond more =
            let l = raised_length key some in
            let a = stem_snoc (stem key) (last_number key + 1) in
            let b = last_snoc (stem key) (last_number key + 1) in
            cone_join n (raised key) c m rest (omega arith) p.0 (e ∙ ap (λ xs. xs ++ m ∷ rest) (sym a)) (omega arith)

pub under_apart : (n : ℕ) (key c : List ℕ) → 1 ≤ length key → length key ≤ n → IsIn n (under key) c → IsIn n (cone (raised key)) c → ⊥
under_apart n key c some most p q =
    let l = raised_length key some in
    let a = stem_snoc (stem key) (last_number key + 1) in
    let b = last_snoc (stem key) (last_number key + 1) in
    let cut = cone_cut n (raised key) c (omega arith) (omega arith) q in
    let e : stem key ++ last_number key ∷ drop (length key) c ≡ stem key ++ cut.0 ∷ cut.1 = sym (under_parts n key c some p) ∙ cut.2 ∙ ap (λ xs. xs ++ cut.0 ∷ cut.1) a in
    let f = append_cancel_left (stem key) (last_number key ∷ drop (length key) c) (cut.0 ∷ cut.1) e in
    let same : last_number key ≡ cut.0 = ap (λ xs. slice_index xs 0) f in
    let low : last_number (raised key) ≤ cut.0 = cut.3 in
    omega arith

-- what lies under a key is the cone of the key followed by 0
pub first_in : (n : ℕ) (key c : List ℕ) → IsIn n (cone (first_under key)) c → IsIn n (under key) c
first_in n key c p =
    let l = length_snoc key 0 in
    let same : length (first_under key) - 1 ≡ length key = omega arith in
    (p.0, sym (ap (λ i. take i c) same) ∙ p.1 ∙ stem_snoc key 0)

pub first_all : (n : ℕ) (key c : List ℕ) → length key < n → IsIn n (under key) c → IsIn n (cone (first_under key)) c
first_all n key c more p =
    let l = length_snoc key 0 in
    let same : length (first_under key) - 1 ≡ length key = omega arith in
    let b = last_snoc key 0 in
    (p.0, ap (λ i. take i c) same ∙ p.1 ∙ sym (stem_snoc key 0), omega arith)

-- ---- the order

pub below_raised : (key : List ℕ) → 1 ≤ length key → IsBelow key (raised key)
below_raised key some =
    let P : List ℕ → Type 0 = λ k. IsBelow k (raised key) in
    subst P (sym (key_parts key some)) (below_at (stem key) (last_number key) (last_number key + 1) [] [] (omega arith))

pub below_first : (key : List ℕ) → IsBelow key (first_under key)
below_first key = below_longer key 0 []

pub under_not_below : (n : ℕ) (key c : List ℕ) → IsIn n (under key) c → IsBelow c key → ⊥
under_not_below n key c p h =
    let P : List ℕ → Type 0 = λ xs. IsBelow xs key in
    not_below_head key (drop (length key) c) (subst P (under_cut n key c p) h)

pub cone_not_below : (n : ℕ) (key c : List ℕ) → 1 ≤ length key → length key ≤ n → IsIn n (cone key) c → IsBelow c key → ⊥
cone_not_below n key c some most p h =
    ⊎_elim (λ q. under_not_below n key c q h) (λ q. above q) (cone_parts n key c some most p)
  where
    above : IsIn n (cone (raised key)) c → ⊥
    above q =
        let l = raised_length key some in
        let a = stem_snoc (stem key) (last_number key + 1) in
        let b = last_snoc (stem key) (last_number key + 1) in
        let cut = cone_cut n (raised key) c (omega arith) (omega arith) q in
        let low : last_number (raised key) ≤ cut.0 = cut.3 in
        let P : List ℕ → Type 0 = λ xs. IsBelow key xs in
        let Q : List ℕ → Type 0 = λ k. IsBelow k (stem key ++ cut.0 ∷ cut.1) in
        let up : IsBelow key c =
        subst P (sym (cut.2 ∙ ap (λ xs. xs ++ cut.0 ∷ cut.1) a))
        (subst Q (sym (key_parts key some)) (below_at (stem key) (last_number key) cut.0 [] cut.1 (omega arith))) in
        below_once c key h up
