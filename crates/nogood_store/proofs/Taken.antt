-- What one look adds to a refresh.
use Rattle.std.proofs.Common.{◌≡◌, ℕ, ◌+◌, ◌<◌, ◌≤◌, inl, inr, Bool, true, false, List, [], ◌∷◌, ◌++◌, length, All, MatchBool, refl, sym, ap, ◌∙◌, subst, append_assoc, append-nil, arith}
use Rattle.std.proofs.lemmas.List.{length_push}
use Rattle.std.proofs.lemmas.List.Elements.{All-push, All-nil, All-cons, All-weaker}
use Rattle.std.proofs.lemmas.List.Quantifiers.{all_pairs_push}
use Rattle.ntfe_model.specs.Shapes.{Shape}
use Rattle.ntfe_model.specs.Certificates.{IsCertificate}
use Rattle.ntfe_model.specs.declared.nogood.Nogood.{Nogood}
use Rattle.boxcar.specs.Table.{Shelves, Where}
use Rattle.nogood_store.specs.Receipts.{IsReceiptOf, AreRising, IsBehind, AreBehind, MayPassOver, AreTaken, Refreshes, Adds, Looks}

pub nothing_found : (store : Shelves) (g : Shape) (r : List (Where Nogood)) (s : List Nogood) → Refreshes store g r s r s
nothing_found store g r s = record { found = []; taken = []; reader = sym (append-nil r); entries = sym (append-nil s); shown = All-nil (IsReceiptOf store); behind = _; right = refl }

takes : (g : Shape) (ws : List (Where Nogood)) (taken : List Nogood) (w : Where Nogood) → AreTaken g ws taken → IsCertificate g w.value → AreTaken g (ws ++ w ∷ []) (taken ++ w.value ∷ [])
takes g [] taken w h cert = inr ([], ap (λ (l : List Nogood). l ++ w.value ∷ []) h, cert, refl)
takes g (v ∷ ws) taken w (inl h) cert = inl (h.0, takes g ws taken w h.1 cert)
takes g (v ∷ ws) taken w (inr h) cert = inr (h.0 ++ w.value ∷ [], ap (λ (l : List Nogood). l ++ w.value ∷ []) h.1, h.2, takes g ws h.0 w h.3 cert)

passes : (g : Shape) (ws : List (Where Nogood)) (taken : List Nogood) (w : Where Nogood) → AreTaken g ws taken → MayPassOver g w.value → AreTaken g (ws ++ w ∷ []) taken
passes g [] taken w h over = inl (over, h)
passes g (v ∷ ws) taken w (inl h) over = inl (h.0, passes g ws taken w h.1 over)
passes g (v ∷ ws) taken w (inr h) over = inr (h.0, h.1, h.2, passes g ws h.0 w h.3 over)

behind_more : (seen ws : List (Where Nogood)) (w : Where Nogood) → AreBehind seen ws → IsBehind (seen ++ ws) w → AreBehind seen (ws ++ w ∷ [])
behind_more seen [] w h k = (subst (λ l. IsBehind l w) (append-nil seen) k, _)
behind_more seen (v ∷ ws) w h k = (h.0, behind_more (seen ++ v ∷ []) ws w h.1 (subst (λ l. IsBehind l w) (sym (append_assoc seen (v ∷ []) ws)) k))

pub looks : (store : Shelves) (g : Shape) (r r' r'' : List (Where Nogood)) (s s' s'' : List Nogood) (is : Bool) → Refreshes store g r s r' s' → Looks store g r' s' r'' s'' is → Refreshes store g r s r'' s''
looks store g r r' r'' s s' s'' is h k = by is k.4
  where
    w : Where Nogood
    w = k.0

    reader : r'' ≡ r ++ (h.found ++ w ∷ [])
    reader = k.3 ∙ ap (λ (l : List (Where Nogood)). l ++ w ∷ []) h.reader ∙ append_assoc r h.found (w ∷ [])

    shown : All (IsReceiptOf store) (h.found ++ w ∷ [])
    shown = All-push (IsReceiptOf store) h.found w h.shown k.1

    behind : AreBehind r (h.found ++ w ∷ [])
    behind = behind_more r h.found w h.behind (subst (λ l. IsBehind l w) h.reader k.2)

    by : (is : Bool) → MatchBool is (IsCertificate g w.value × (s'' ≡ s' ++ w.value ∷ [])) (MayPassOver g w.value × (s'' ≡ s')) → Refreshes store g r s r'' s''
    by true m = record {
      found = h.found ++ w ∷ [];
      taken = h.taken ++ w.value ∷ [];
      reader = reader;
      entries = m.1 ∙ ap (λ (l : List Nogood). l ++ w.value ∷ []) h.entries ∙ append_assoc s h.taken (w.value ∷ []);
      shown = shown;
      behind = behind;
      right = takes g h.found h.taken w h.right m.0;
    }
    by false m = record { found = h.found ++ w ∷ []; taken = h.taken; reader = reader; entries = m.1 ∙ h.entries; shown = shown; behind = behind; right = passes g h.found h.taken w h.right m.0 }

-- what is counted
pub looks_count : (store : Shelves) (g : Shape) (r r' : List (Where Nogood)) (s s' : List Nogood) (is : Bool) (n : ℕ) (f : Bool → ℕ) → Looks store g r s r' s' is → n ≡ f is → f true ≡ 1 → f false ≡ 0 → (length s' ≡ length s + n) × (n ≤ 1)
looks_count store g r r' s s' true n f k e one none = (omega (arith, ap length k.4.1, length_push s k.0.value, e, one), omega (arith, e, one))
looks_count store g r r' s s' false n f k e one none = (omega (arith, ap length k.4.1, e, none), omega (arith, e, none))

certificates : (g : Shape) (ws : List (Where Nogood)) (taken : List Nogood) → AreTaken g ws taken → All (IsCertificate g) taken
certificates g [] taken h = subst (All (IsCertificate g)) (sym h) (All-nil (IsCertificate g))
certificates g (w ∷ ws) taken (inl h) = certificates g ws taken h.1
certificates g (w ∷ ws) taken (inr h) = subst (All (IsCertificate g)) (sym h.1) (All-cons (IsCertificate g) w.value h.0 h.2 (certificates g ws h.0 h.3))

pub adds : (store : Shelves) (g : Shape) (r r' : List (Where Nogood)) (s s' : List Nogood) → Refreshes store g r s r' s' → Adds g s s'
adds store g r r' s s' h = (h.taken, h.entries, certificates g h.found h.taken h.right)

-- the reader stands behind one more entry
pub reads_on : (seen old new : List (Where Nogood)) (w : Where Nogood) (next : ℕ) → AreRising old → IsBehind seen w → old ≡ seen → new ≡ old ++ w ∷ [] → next ≡ w.index + 1 → AreRising new × All (λ v. v.index < next) new
reads_on seen old new w next rising behind e d n =
    let behind' : IsBehind old w = subst (λ (l : List (Where Nogood)). IsBehind l w) (sym e) behind in (
      subst AreRising (sym d) (all_pairs_push (λ u v. u.index < v.index) old w rising behind'),
      subst (All (λ v. v.index < next)) (sym d)
          (All-push (λ v. v.index < next) old w (All-weaker (λ v. v.index < w.index) (λ v. v.index < next) (λ v l. omega (arith, l, n)) old behind') (omega (arith, n))),
    )
