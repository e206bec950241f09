-- A basis with fewer places, where the rows behind changed no number.
--     settled_here       a basis that stands at the end of the run on some rows, with all its places
--     settled_more       one more row changed no number
--     settled_cut        the rows behind are taken back
--     stays_sized        one more row that changed no number leaves the sizes
use Rattle.std.proofs.Common.{◌≡◌, ℕ, ◌+◌, ◌*◌, ◌^◌, ◌<◌, ◌≤◌, ◌⊎◌, inl, inr, ℤ, pos, ◌<ℤ◌, unsigned_abs, refl, sym, ap, ◌∙◌, subst, arith, List, [], ◌∷◌, ◌++◌, map, take, length}
use Rattle.std.proofs.lemmas.List.{take_all, take-take, take-append-le, length-take-le, length-map, length-append}
use Rattle.ntfe_model.specs.declared.nogood.Fold.{Fold}
use Rattle.ntfe_model.specs.Solver.{fold_row}
use Rattle.strict_solver.specs.declared.place.Place.TheVariants.{Row}
use Rattle.strict_solver.specs.declared.basis.Basis.{Basis}
use Rattle.strict_solver.specs.Mixing.{AreNarrowRows}
use Rattle.strict_solver.specs.Standing.{IsSized, HasOneMore}
use Rattle.strict_solver.specs.Stems.{HasMemory, IsKnownStem, IsCut, IsSettled}
use Rattle.strict_solver.proofs.Outcome.{are_rows}
use Rattle.strict_solver.proofs.SlackLines.{reached-length}
use Rattle.strict_solver.proofs.Stems.{copied, memory_of}

-- it has a place for each height and for each row
pub known_places : (b : Basis) (fs : List Fold) → IsKnownStem b fs → length b.places.items ≡ b.columns + length fs
known_places b fs k =
    let h = k.stands in
    h.stands.count ∙ reached-length b.columns (map (fold_row b.columns) fs) (are_rows b.columns fs) h.ends.steps h.end h.ends.reaches ∙ ap (λ n. b.columns + n) (length-map fs (fold_row b.columns))

pub settled_here : (b : Basis) (fs : List Fold) (s : ℕ) → s ≡ length fs → IsKnownStem b fs → IsSettled b fs s
settled_here b fs s e k = record { within = omega arith; each = each }
  where
    each : (n : ℕ) → s ≤ n → n ≤ length fs → (c : Basis) → HasMemory c → IsCut b c n → IsKnownStem c (take n fs)
    each n l m c y i =
        let P : List Fold → Type 0 = λ gs. IsKnownStem c gs in
        let whole = take_all (b.columns + n) b.places.items (let a = known_places b fs k in omega arith) in
        subst P (sym (take_all n fs (omega arith))) (copied b c fs (record { columns = i.columns; denominator = i.denominator; cells = i.cells; places = i.places ∙ whole }) y k)

pub settled_more : (b d : Basis) (fs : List Fold) (f : Fold) (s : ℕ) → IsKnownStem b fs → IsSettled b fs s → HasOneMore b d → IsKnownStem d (fs ++ f ∷ []) → IsSettled d (fs ++ f ∷ []) s
settled_more b d fs f s k h o kd = record {
  within = (let a = length-append fs (f ∷ []) in let w = h.within in omega arith);
  each = λ n l m c y i. by n l m c y i (let q : (n ≤ length fs) ⊎ (length fs < n) = grind arith in q);
}
  where
    by : (n : ℕ) → s ≤ n → n ≤ length (fs ++ f ∷ []) → (c : Basis) → HasMemory c → IsCut d c n → (n ≤ length fs) ⊎ (length fs < n) → IsKnownStem c (take n (fs ++ f ∷ []))
    by n l m c y i (inl q) =
        let P : List Fold → Type 0 = λ gs. IsKnownStem c gs in
        let front = take-append-le (b.columns + n) b.places.items (Row 0 ∷ []) (let a = known_places b fs k in omega arith) in
        subst P (sym (take-append-le n fs (f ∷ []) q))
        (h.each n l q c y
        (record {
          columns = i.columns ∙ o.columns;
          denominator = i.denominator ∙ o.denominator;
          cells = i.cells ∙ ap (λ v. v.items) o.cells;
          places = i.places ∙ (λ t. take (o.columns t + n) (o.places t)) ∙ front;
        }))
    by n l m c y i (inr q) = (settled_here d (fs ++ f ∷ []) (length (fs ++ f ∷ [])) refl kd).each n (let a = length-append fs (f ∷ []) in omega arith) m c y i

pub settled_cut : (b c : Basis) (fs : List Fold) (s n : ℕ) → IsSettled b fs s → s ≤ n → n ≤ length fs → IsCut b c n → IsSettled c (take n fs) s
settled_cut b c fs s n h l m o = record { within = (let a = length-take-le n fs m in omega arith); each = each }
  where
    each : (j : ℕ) → s ≤ j → j ≤ length (take n fs) → (e : Basis) → HasMemory e → IsCut c e j → IsKnownStem e (take j (take n fs))
    each j p q e y i =
        let P : List Fold → Type 0 = λ gs. IsKnownStem e gs in
        let a = length-take-le n fs m in
        subst P (sym (take-take j n fs (omega arith)))
        (h.each j p (omega arith) e y
        (record {
          columns = i.columns ∙ o.columns;
          denominator = i.denominator ∙ o.denominator;
          cells = i.cells ∙ o.cells;
          places = i.places ∙ (λ t. take (o.columns t + j) (o.places t)) ∙ take-take (b.columns + j) (b.columns + n) b.places.items (omega arith);
        }))

pub stays_sized : (b c : Basis) → HasOneMore b c → IsSized b → IsSized c
stays_sized b c o h = record {
  few = subst (λ n. n ≤ 400) (sym o.columns) h.few;
  cells = ap (λ v. length v.items) o.cells ∙ h.cells ∙ ap (λ n. n * (n + 2)) (sym o.columns);
  line = ap (λ v. length v.items) o.line ∙ h.line ∙ ap (λ n. n + 2) (sym o.columns);
  narrow = (let P : ℕ → Type 0 = λ n. AreNarrowRows n (n + 2) c.cells.items in let Q : List ℤ → Type 0 = λ xs. AreNarrowRows b.columns (b.columns + 2) xs in subst P (sym o.columns) (subst Q (sym (ap (λ v. v.items) o.cells)) h.narrow));
  positive = (let P : ℤ → Type 0 = λ z. pos 0 <ℤ z in subst P (sym o.denominator) h.positive);
  small = (let P : ℤ → Type 0 = λ z. unsigned_abs z < 2 ^ 30 in subst P (sym o.denominator) h.small);
}

pub settled_start : (b : Basis) (fs : List Fold) → fs ≡ [] → IsKnownStem b [] → HasMemory b × IsKnownStem b fs × IsSettled b fs 0
settled_start b fs e k =
    let K : List Fold → Type 0 = λ gs. IsKnownStem b gs in
    let S : List Fold → Type 0 = λ gs. IsSettled b gs 0 in
    (memory_of b k.sized, subst K (sym e) k, subst S (sym e) (settled_here b [] 0 refl k))
