-- The bytes of an input of `resume` are those of one input only, and are not refused.
use Rattle.std.proofs.Common.{◌≡◌, ◌≢◌, ◌∙◌, inl, inr, refl, sym, ap, subst, arith, ℕ, List, [], ◌∷◌, ◌++◌, length, Ok}
use Rattle.std.specs.Prelude.{All}
use Rattle.std.proofs.lemmas.List.{length-append, append_cancel_left}
use Rattle.std.proofs.lemmas.List.Elements.{All-head, All-tail}
use Rattle.ntfe_model.specs.Shapes.{Shape}
use Rattle.ntfe_model.specs.PairText.{lines}
use Rattle.ntfe_model.specs.RunText.{Form, Kept}
use Rattle.ntfe_model.specs.Earlier.{IsKeptOf}
use Rattle.pair_text.specs.Output.{IsOutputLine, IsSplitAtOutput, IsCutAt, whole}
use Rattle.class_text.specs.Earlier.{HasCause}
use Rattle.class_text.specs.declared.earlier.Earlier as read
use Rattle.class_text.specs.declared.earlier_fault.EarlierFault.{EarlierFault}
use Rattle.class_text.specs.declared.earlier_fault.EarlierFault.TheVariants as earlier
use Rattle.class_text.proofs.OneAnswer.{only_kept, exact_fault}
use Rattle.ntfe_run.specs.Inputs.{IsInputOf}
use Rattle.ntfe_run.specs.Earlier.{Begun, HoldBoth, layout, IsBegunInput, IsBegunRefusal}
use Rattle.ntfe_run.specs.declared.status.Refusal.{Refusal}
use Rattle.ntfe_run.specs.declared.status.Refusal.TheVariants.{Size, NoOutput, Text, Pair, Points, Earlier}
use Rattle.ntfe_run.proofs.InputsFixed.{input_fixed, not_refused}

-- ---- the line whose only field is `output`

-- none of the lines is one
abbrev IsFree : List (List ℕ) → Type 0
IsFree xs = All (λ line. ¬ (IsOutputLine line)) xs

first_fixed : (xs ys : List (List ℕ)) (a b : List ℕ) (zs ws : List (List ℕ)) → xs ++ a ∷ zs ≡ ys ++ b ∷ ws → IsFree xs → IsFree ys → IsOutputLine a → IsOutputLine b → (xs ≡ ys) × (a ≡ b)
first_fixed [] [] a b zs ws e f g p q = (refl, cc)
first_fixed [] (y ∷ ys) a b zs ws e f g p q = absurd (All-head (λ line. ¬ (IsOutputLine line)) y ys g (let s : a ≡ y = cc in subst IsOutputLine s p))
first_fixed (x ∷ xs) [] a b zs ws e f g p q = absurd (All-head (λ line. ¬ (IsOutputLine line)) x xs f (let s : b ≡ x = cc in subst IsOutputLine s q))
first_fixed (x ∷ xs) (y ∷ ys) a b zs ws e f g p q =
    let s : x ≡ y = cc in
    let t : xs ++ a ∷ zs ≡ ys ++ b ∷ ws = cc in
    let r = first_fixed xs ys a b zs ws t (All-tail (λ line. ¬ (IsOutputLine line)) x xs f) (All-tail (λ line. ¬ (IsOutputLine line)) y ys g) p q in
    ((λ i. s i ∷ r.0 i), r.1)

none_first : (xs : List (List ℕ)) (a : List ℕ) (zs : List (List ℕ)) → IsFree (xs ++ a ∷ zs) → ¬ (IsOutputLine a)
none_first [] a zs f = All-head (λ line. ¬ (IsOutputLine line)) a zs f
none_first (x ∷ xs) a zs f = none_first xs a zs (All-tail (λ line. ¬ (IsOutputLine line)) x (xs ++ a ∷ zs) f)

-- what is behind a line
behind_fixed : (bytes line r s : List ℕ) → IsCutAt bytes line r → IsCutAt bytes line s → r ≡ s
behind_fixed bytes line r s (inl e) (inl f) =
    let g : 10 ∷ r ≡ 10 ∷ s = append_cancel_left line (10 ∷ r) (10 ∷ s) (sym e ∙ f) in
    cc
behind_fixed bytes line r s (inl e) (inr f) = absurd (omega (arith, ap length e, ap length f.0, length-append line (10 ∷ r)))
behind_fixed bytes line r s (inr e) (inl f) = absurd (omega (arith, ap length f, ap length e.0, length-append line (10 ∷ s)))
behind_fixed bytes line r s (inr e) (inr f) = e.1 ∙ sym f.1

module _ (bytes : List ℕ) where
  split_fixed : (a r b s : List ℕ) → IsSplitAtOutput bytes a r → IsSplitAtOutput bytes b s → (a ≡ b) × (r ≡ s)
  split_fixed a r b s h k =
      let f = first_fixed h.first k.first h.line k.line (lines r) (lines s) (sym h.lines_are ∙ k.lines_are) h.others k.others h.output k.output in
      let e : a ≡ b = h.before_is ∙ ap whole f.0 ∙ sym k.before_is in
      (e, behind_fixed bytes (b ++ k.line) r s (subst (λ (l : List ℕ). IsCutAt bytes l r) (λ i. e i ++ f.1 i) h.bytes_are) k.bytes_are)

  no_output : (a r : List ℕ) → IsSplitAtOutput bytes a r → ¬ (IsFree (lines bytes))
  no_output a r h f = none_first h.first h.line (lines r) (subst IsFree h.lines_are f) h.output

-- ---- what is kept

-- as the reader answers it
abbrev answer_of : Kept → read.Earlier
answer_of k = record { kept = k.bytes; last = k.last; count = k.blocks }

module _ (form : Form) (g : Shape) (bytes : List ℕ) where
  kept_fixed : (j k : Kept) → IsKeptOf (layout form g) bytes j → IsKeptOf (layout form g) bytes k → j ≡ k
  kept_fixed j k p q = only_kept (layout form g) (omega arith) bytes (Ok (answer_of j)) p tt k q

  no_fault : (k : Kept) (fault : EarlierFault) → IsKeptOf (layout form g) bytes k → fault ≢ earlier.Memory → ¬ (HasCause (layout form g) bytes fault)
  no_fault k fault p n c = exact_fault (layout form g) (omega arith) bytes (Ok (answer_of k)) p tt fault n c

-- ---- the input

module _ (form : Form) (bytes : List ℕ) where
  pub begun_fixed : (i j : Begun) → IsBegunInput form bytes i → IsBegunInput form bytes j → i ≡ j
  begun_fixed i j h k =
      let s = split_fixed bytes h.before h.behind k.before k.behind h.split k.split in
      let g = input_fixed k.before i.geometry j.geometry (subst (λ (xs : List ℕ). IsInputOf xs i.geometry) s.0 h.holds.0) k.holds.0 in
      let kept = kept_fixed form j.geometry k.behind i.kept j.kept
      (subst (λ (x : Shape × List ℕ). IsKeptOf (layout form x.0) x.1 i.kept) (λ n. (g n, s.1 n)) h.holds.1) k.holds.1 in
      λ n. record { geometry = g n; kept = kept n }

  module _ (i : Begun) (h : IsBegunInput form bytes i) where
    -- the same pair is refused for none of the causes of a pair
    no_pair : (refusal : Refusal) → HoldBoth bytes (λ before behind. Rattle.ntfe_run.specs.Inputs.IsRefusalOf before refusal) → ⊥
    no_pair refusal r =
        let s = split_fixed bytes h.before h.behind r.before r.behind h.split r.split in
        not_refused r.before i.geometry refusal (subst (λ (xs : List ℕ). IsInputOf xs i.geometry) s.0 h.holds.0) r.holds

    no_earlier : (fault : EarlierFault) → IsBegunRefusal form bytes (Earlier fault) → ⊥
    no_earlier fault (r, n) =
        let s = split_fixed bytes h.before h.behind r.before r.behind h.split r.split in
        let g = input_fixed r.before i.geometry r.holds.0 (subst (λ (xs : List ℕ). IsInputOf xs i.geometry) s.0 h.holds.0) r.holds.1 in
        no_fault form r.holds.0 r.behind i.kept fault
        (subst (λ (x : Shape × List ℕ). IsKeptOf (layout form x.0) x.1 i.kept) (λ n. (g n, s.1 n)) h.holds.1) n r.holds.2

    pub begun_not_refused : (refusal : Refusal) → IsBegunRefusal form bytes refusal → ⊥
    begun_not_refused NoOutput r = no_output bytes h.before h.behind h.split r
    begun_not_refused (Earlier fault) r = no_earlier fault r
    begun_not_refused (Text fault) r = no_pair (Text fault) r
    begun_not_refused (Pair fault) r = no_pair (Pair fault) r
    begun_not_refused (Points fault) r = no_pair (Points fault) r
    begun_not_refused (Size limit) r = no_pair (Size limit) r
