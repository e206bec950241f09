-- An earlier output has one answer: what is kept, or one fault.
use Rattle.std.proofs.Common.{◌≡◌, ◌≢◌, ℕ, zero, suc, ◌+◌, ◌<◌, ◌≤◌, ◌^◌, ◌⊎◌, inl, inr, ⊎_elim, List, [], ◌∷◌, ◌++◌, length, get_or, Some, Result, Ok, Err, IfOk, IfErr, MatchResult, refl, sym, ap, ◌∙◌, subst, append_assoc, arith}
use Rattle.std.specs.Prelude.{codes, slice_get}
use Rattle.std.proofs.lemmas.Bool.{cases_lt}
use Rattle.std.proofs.lemmas.List.{append_cancel_left, length-append}
use Rattle.std.proofs.lemmas.Option.{slice_get_within}
use Rattle.ntfe_model.specs.RunText.{Kept, number_line}
use Rattle.ntfe_model.specs.Earlier.{Layout, Place, Reading, Reads, IsAllowed, IsClassLine, IsKeptOf, Differs, IsHeadFault, IsBodyFault, head_lines, whole_lines, with_feed, after_head, goes_on}
use Rattle.ntfe_model.specs.Earlier.Place.{class_or_end, heights_of, star_of, simplices_of, nothing}
use Rattle.class_text.specs.Earlier.{HasCause, kept_of}
use Rattle.class_text.specs.declared.earlier.Earlier.{Earlier}
use Rattle.class_text.specs.declared.earlier_fault.EarlierFault.{EarlierFault}
use Rattle.class_text.specs.declared.earlier_fault.EarlierFault.TheVariants.{Head, Body, Memory}
use Rattle.class_text.proofs.UniqueLines.{unique, one_number, class_numbers}
use Rattle.class_text.proofs.ReadLines.{before_end}

-- ---- lists

-- where a list goes on after xs with a, so does a longer front of it
longer_front : (xs ys : List (List ℕ)) (a : List ℕ) (more others : List (List ℕ)) → xs ++ a ∷ more ≡ ys ++ others → length xs < length ys → (zs : List (List ℕ)) × (ys ≡ xs ++ a ∷ zs)
longer_front [] [] a more others e h = absurd (omega arith)
longer_front [] (y ∷ ys) a more others e h = (ys, (let q : y ≡ a = cc in ap (λ (z : List ℕ). z ∷ ys) q))
longer_front (x ∷ xs) [] a more others e h = absurd (omega arith)
longer_front (x ∷ xs) (y ∷ ys) a more others e h =
    let q : y ≡ x = cc in
    let r : xs ++ a ∷ more ≡ ys ++ others = cc in
    let f = longer_front xs ys a more others r (omega arith) in
    (f.0, (λ i. q i ∷ f.1 i))

-- a list and those that go on after it agree
agree : (xs ys zs : List (List ℕ)) (i : ℕ) (a b : List ℕ) → ys ≡ xs ++ zs → slice_get xs i ≡ Some a → slice_get ys i ≡ Some b → a ≡ b
agree xs ys zs i a b e p q =
    let r : Some b ≡ Some a = sym q ∙ ap (λ l. slice_get l i) e ∙ before_end xs zs i (slice_get_within xs i a p) ∙ p in
    cc

not_longer : (xs ys more rest : List (List ℕ)) → 0 < length more → xs ≡ ys ++ more → ys ≡ xs ++ rest → ⊥
not_longer xs ys more rest h e f = omega (arith, ap length e, ap length f, length-append ys more, length-append xs rest)

-- ---- a line leads to one reading

module _ (l : Layout) (few : l.items ≤ 2 ^ 32) where
  same_choice : (s : Reading) (line a b : List ℕ) → IsClassLine l s line a → IsClassLine l s line b → a ≡ b
  same_choice s line a b p q = unique (codes "class") line a b l.faces l.items refl few (class_numbers l s line a p) (class_numbers l s line b q)

  no_class : (s : Reading) (line choice : List ℕ) (n : ℕ) → IsClassLine l s line choice → (with_feed line ≡ number_line (codes "end") (n ∷ [])) ⊎ (with_feed line ≡ number_line (codes "limit") (n ∷ [])) → ⊥
  no_class s line choice n p (inl e) = (let q : ◌≡◌ {A = ℕ} 99 101 = ap (λ (xs : List ℕ). get_or xs 0 0) (sym p.is ∙ e) in omega arith)
  no_class s line choice n p (inr e) = (let q : ◌≡◌ {A = ℕ} 99 108 = ap (λ (xs : List ℕ). get_or xs 0 0) (sym p.is ∙ e) in omega arith)

  same_reading : (s : Reading) (p : Place) (line : List ℕ) (t u : Reading) → IsAllowed l s p line t → IsAllowed l s p line u → t ≡ u
  same_reading s class_or_end line t u (inl a) (inl b) = a.2 ∙ ap (λ c. goes_on s (length line + 1) (heights_of c)) (same_choice s line a.0 b.0 a.1 b.1) ∙ sym b.2
  same_reading s class_or_end line t u (inl a) (inr b) = absurd (no_class s line a.0 s.kept.blocks a.1 b.0)
  same_reading s class_or_end line t u (inr a) (inl b) = absurd (no_class s line b.0 s.kept.blocks b.1 a.0)
  same_reading s class_or_end line t u (inr a) (inr b) = a.1 ∙ sym b.1
  same_reading s (heights_of choice) line t u a b = a.1 ∙ sym b.1
  same_reading s (star_of choice) line t u a b =
      let e = unique (codes "star") line (a.0 ∷ []) (b.0 ∷ []) 1 (2 ^ 32) refl (omega arith) (one_number (codes "star") line a.0 a.2 a.3) (one_number (codes "star") line b.0 b.2 b.3) in
      a.4 ∙ ap (λ ns. goes_on s (length line + 1) (simplices_of choice (get_or ns 0 0))) e ∙ sym b.4
  same_reading s (simplices_of choice zero) line t u a b = absurd a
  same_reading s (simplices_of choice (suc n)) line t u a b = a.1 ∙ sym b.1
  same_reading s nothing line t u a b = absurd a

  same_end : (s : Reading) (xs : List (List ℕ)) (t u : Reading) → Reads l s xs t → Reads l s xs u → t ≡ u
  same_end s [] t u h k = sym h ∙ k
  same_end s (x ∷ xs) t u h k =
      same_end h.0 xs t u h.2 (subst (λ (q : Reading). Reads l q xs u) (sym (same_reading s s.place x h.0 k.0 h.1 k.1)) k.2)

  -- the line after a front that is read is allowed
  allowed_after : (s : Reading) (xs : List (List ℕ)) (line : List ℕ) (ys : List (List ℕ)) (u at : Reading) → Reads l s (xs ++ line ∷ ys) u → Reads l s xs at → (t : Reading) × IsAllowed l at at.place line t
  allowed_after s [] line ys u at h k = (h.0, subst (λ (q : Reading). IsAllowed l q q.place line h.0) k h.1)
  allowed_after s (x ∷ xs) line ys u at h k =
      allowed_after h.0 xs line ys u at h.2 (subst (λ (q : Reading). Reads l q xs at) (sym (same_reading s s.place x h.0 k.0 h.1 k.1)) k.2)

  -- ---- one answer

  module _ (bytes : List ℕ) where
    one_kept : (j k : Kept) → IsKeptOf l bytes j → IsKeptOf l bytes k → j ≡ k
    one_kept j k (inl p) (inl q) = p.3 ∙ sym q.3
    one_kept j k (inl p) (inr q) = absurd (not_longer (head_lines l) (whole_lines bytes) p.0 q.0 p.1 p.2 q.2)
    one_kept j k (inr p) (inl q) = absurd (not_longer (head_lines l) (whole_lines bytes) q.0 p.0 q.1 q.2 p.2)
    one_kept j k (inr p) (inr q) =
        let e : p.0 ≡ q.0 = append_cancel_left (head_lines l) p.0 q.0 (sym p.2 ∙ q.2) in
        let f = same_end (after_head l) q.0 p.1 q.1 (subst (λ (xs : List (List ℕ)). Reads l (after_head l) xs p.1) e p.3) q.3 in
        p.4 ∙ ap (λ r. r.kept) f ∙ sym q.4

    no_difference : (k : Kept) (i : ℕ) → IsKeptOf l bytes k → ¬ (Differs l bytes i)
    no_difference k i (inl p) d = d.4 (agree (whole_lines bytes) (head_lines l) p.0 i d.0 d.1 p.2 d.2 d.3)
    no_difference k i (inr p) d = d.4 (sym (agree (head_lines l) (whole_lines bytes) p.0 i d.1 d.0 p.2 d.3 d.2))

    body_lines : (n : ℕ) (b : IsBodyFault l bytes n) → whole_lines bytes ≡ head_lines l ++ (b.good ++ b.line ∷ b.rest)
    body_lines n b = b.lines ∙ append_assoc (head_lines l) b.good (b.line ∷ b.rest)

    no_fault_kept : (k : Kept) (n : ℕ) → IsKeptOf l bytes k → ¬ (IsBodyFault l bytes n)
    no_fault_kept k n (inl p) b = not_longer (head_lines l) (whole_lines bytes) p.0 _ p.1 p.2 (body_lines n b)
    no_fault_kept k n (inr p) b =
        let e = append_cancel_left (head_lines l) p.0 (b.good ++ b.line ∷ b.rest) (sym p.2 ∙ body_lines n b) in
        let f = allowed_after (after_head l) b.good b.line b.rest p.1 b.at (subst (λ (xs : List (List ℕ)). Reads l (after_head l) xs p.1) e p.3) b.reads in
        b.refused f.0 f.1

    no_both : (i n : ℕ) → Differs l bytes i → ¬ (IsBodyFault l bytes n)
    no_both i n d b = d.4 (sym (agree (head_lines l) (whole_lines bytes) (b.good ++ b.line ∷ b.rest) i d.1 d.0 (body_lines n b) d.3 d.2))

    not_first : (m n : ℕ) (a : IsBodyFault l bytes m) (b : IsBodyFault l bytes n) → length a.good < length b.good → ⊥
    not_first m n a b h =
        let e = append_cancel_left (head_lines l) (a.good ++ a.line ∷ a.rest) (b.good ++ b.line ∷ b.rest) (sym (body_lines m a) ∙ body_lines n b) in
        let z = longer_front a.good b.good a.line a.rest (b.line ∷ b.rest) e h in
        let f = allowed_after (after_head l) a.good a.line z.0 b.at a.at (subst (λ (xs : List (List ℕ)). Reads l (after_head l) xs b.at) z.1 b.reads) a.reads in
        a.refused f.0 f.1

    same_line : (m n : ℕ) → IsBodyFault l bytes m → IsBodyFault l bytes n → m ≡ n
    same_line m n a b =
        ⊎_elim (λ h. absurd (not_first m n a b h))
        (λ h. ⊎_elim (λ k. absurd (not_first n m b a k)) (λ k. a.number_is ∙ (let q : length a.good ≡ length b.good = omega arith in ap (λ x. length (head_lines l) + x + 1) q) ∙ sym b.number_is)
        (cases_lt (length b.good) (length a.good))) (cases_lt (length a.good) (length b.good))

    same_head_line : (m n : ℕ) → IsHeadFault l bytes m → IsHeadFault l bytes n → m ≡ n
    same_head_line m n a b =
        ⊎_elim (λ h. absurd (b.1.least a.0 h a.1.holds))
        (λ h. ⊎_elim (λ k. absurd (a.1.least b.0 k b.1.holds)) (λ k. a.2 ∙ (let q : a.0 ≡ b.0 = omega arith in ap (λ x. x + 1) q) ∙ sym b.2) (cases_lt b.0 a.0)) (cases_lt a.0 b.0)

    one_fault : (e f : EarlierFault) → e ≢ Memory → HasCause l bytes e → HasCause l bytes f → (f ≡ e) ⊎ (f ≡ Memory)
    one_fault e Memory no_memory p q = inr refl
    one_fault (Head m) (Head n) no_memory p q = inl (ap Head (same_head_line n m q p))
    one_fault (Head m) (Body n) no_memory p q = absurd (no_both p.0 n p.1.holds q)
    one_fault (Body m) (Head n) no_memory p q = absurd (no_both q.0 m q.1.holds p)
    one_fault (Body m) (Body n) no_memory p q = inl (ap Body (same_line n m q p))
    one_fault Memory (Head n) no_memory p q = absurd (no_memory refl)
    one_fault Memory (Body n) no_memory p q = absurd (no_memory refl)

    pub only_kept : (r : Result Earlier EarlierFault) → IfOk r (λ e. IsKeptOf l bytes (kept_of e)) → IfErr r (HasCause l bytes) → (kept : Kept) → IsKeptOf l bytes kept
        → MatchResult r (λ e. kept_of e ≡ kept) (λ f. f ≡ Memory)
    only_kept (Ok e) p q kept k = one_kept (kept_of e) kept p k
    only_kept (Err (Head n)) p q kept k = absurd (no_difference kept q.0 k q.1.holds)
    only_kept (Err (Body n)) p q kept k = absurd (no_fault_kept kept n k q)
    only_kept (Err Memory) p q kept k = refl

    no_cause : (e : Kept) (fault : EarlierFault) → fault ≢ Memory → IsKeptOf l bytes e → ¬ (HasCause l bytes fault)
    no_cause e (Head n) no_memory k q = no_difference e q.0 k q.1.holds
    no_cause e (Body n) no_memory k q = no_fault_kept e n k q
    no_cause e Memory no_memory k q = no_memory refl

    pub exact_fault : (r : Result Earlier EarlierFault) → IfOk r (λ e. IsKeptOf l bytes (kept_of e)) → IfErr r (HasCause l bytes) → (fault : EarlierFault) → fault ≢ Memory → HasCause l bytes fault
        → MatchResult r (λ _. ⊥) (λ f. (f ≡ fault) ⊎ (f ≡ Memory))
    exact_fault (Ok e) p q fault no_memory c = no_cause (kept_of e) fault no_memory p c
    exact_fault (Err f) p q fault no_memory c = one_fault fault f no_memory c q
