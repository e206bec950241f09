-- The lines of a pair are the lines of no other pair, and have no fault.
use Rattle.std.proofs.Common.{◌≡◌, ℕ, ◌+◌, ◌<◌, ◌≤◌, zero, suc, ◌⊎◌, ℤ, pos, ◌≤ℤ◌, List, [], ◌∷◌, ◌++◌, length, map, get_or, Option, Some, None, refl, sym, ap, ◌∙◌, subst, append_assoc, inl, inr, Result, Ok, Err, IfOk, IfErr, MatchResult, arith}
use Rattle.std.specs.Prelude.{codes, unsigned_abs}
use Rattle.std.specs.List.{AllZip}
use Rattle.std.proofs.lemmas.Int.{ints}
use Rattle.std.proofs.lemmas.List.{append-nil, length-map}
use Rattle.ntfe_nums.specs.Vectors.{Vector, numbers}
use Rattle.ntfe_model.specs.Pairs.{VertexLists, IsSmall}
use Rattle.ntfe_model.specs.PairText.{Line, Due, count_of, four_numbers, nothing, number, AreNumbers, IsCountLine, IsVectorLine, IsBegun, AreListLines, ArePairLines, IsDueInList, IsDue, in_vertices, in_dual, in_none, HasFields, IsBadLine, IsBadNumber, IsTooLarge, IsBadCount, IsLong, IsFirstWrong, EndsEarly}
use Rattle.pair_text.specs.declared.fault.TextFault.{TextFault}
use Rattle.pair_text.specs.declared.fault.TextFault.TheVariants.{BadLine, BadNumber, TooLarge, Count, Short, Long, Memory}
use Rattle.pair_text.specs.Faults.{IsCauseIn}
use Rattle.ntfe_nums.proofs.VectorLemmas.{same4}
use Rattle.ntfe_model.proofs.SmallVectors.{small_size}

-- ---- a line has one meaning

count_fixed : (word : List ℕ) (m n : ℕ) (line : Line) → IsCountLine word m line → IsCountLine word n line → m ≡ n
count_fixed word m n line g h =
    let f : g.field ≡ h.field = cc (sym g.fields_are ∙ h.fields_are) in
    let e : Some (pos m) ≡ Some (pos n) = sym g.number_is ∙ ap number f ∙ h.number_is in
    cc

pub numbers_fixed : (zs ys : List ℤ) → map Some zs ≡ map Some ys → zs ≡ ys
numbers_fixed [] [] e = refl
numbers_fixed [] (y ∷ ys) e = absurd cc
numbers_fixed (z ∷ zs) [] e = absurd cc
numbers_fixed (z ∷ zs) (y ∷ ys) e =
    let h : z ≡ y = cc in
    let t : map Some zs ≡ map Some ys = cc in
    let r = numbers_fixed zs ys t in
    cc

vector_fixed : (line : Line) (u v : Vector) → IsVectorLine line u → IsVectorLine line v → u ≡ v
vector_fixed line u v g h =
    let e = numbers_fixed (numbers u) (numbers v) (sym g.numbers_are ∙ h.numbers_are) in
    same4 u v (cc e) (cc e) (cc e) (cc e)

-- ---- the lines of a list, and what follows them

entries_fixed : (xs ys a b : List Line) (us vs : List Vector) → AllZip IsVectorLine xs us → AllZip IsVectorLine ys vs → length us ≡ length vs → xs ++ a ≡ ys ++ b → (us ≡ vs) × (a ≡ b)
entries_fixed [] [] a b [] [] g h l e = (refl, e)
entries_fixed [] ys a b (u ∷ us) vs g h l e = absurd g
entries_fixed (x ∷ xs) ys a b [] vs g h l e = absurd g
entries_fixed xs [] a b us (v ∷ vs) g h l e = absurd h
entries_fixed xs (y ∷ ys) a b us [] g h l e = absurd h
entries_fixed [] (y ∷ ys) a b [] (v ∷ vs) g h l e = absurd (omega arith)
entries_fixed (x ∷ xs) [] a b (u ∷ us) [] g h l e = absurd (omega arith)
entries_fixed (x ∷ xs) (y ∷ ys) a b (u ∷ us) (v ∷ vs) g h l e =
    let same : y ≡ x = cc in
    let tails : xs ++ a ≡ ys ++ b = cc in
    let r = entries_fixed xs ys a b us vs g.1 h.1 (omega arith) tails in
    let first : u ≡ v = vector_fixed x u v g.0 (subst (λ (z : Line). IsVectorLine z v) same h.0) in
    (cc (r.0, first), r.1)

-- a line with what is due
abbrev pub IsRight : Due → Line → Type 0
IsRight (count_of word) line = (n : ℕ) × (5 ≤ n) × (n ≤ 64) × IsCountLine word n line
IsRight four_numbers line = (v : Vector) × IsVectorLine line v
IsRight nothing line = ⊥

-- some line follows, and has what is due
pub record Follows (due : Due) (rest : List Line) : Type 0 where
  pub line : Line
  pub later : List Line
  pub rest_is : rest ≡ line ∷ later
  pub right : IsRight due line

-- behind fewer lines of vectors comes another one
entry_follows : (xs ys a b : List Line) (us vs : List Vector) → AllZip IsVectorLine xs us → AllZip IsVectorLine ys vs → length vs < length us → xs ++ a ≡ ys ++ b → Follows four_numbers b
entry_follows xs ys a b [] vs g h l e = absurd (omega arith)
entry_follows [] ys a b (u ∷ us) vs g h l e = absurd g
entry_follows xs [] a b us (v ∷ vs) g h l e = absurd h
entry_follows xs (y ∷ ys) a b us [] g h l e = absurd h
entry_follows (x ∷ xs) [] a b (u ∷ us) [] g h l e = record { line = x; later = xs ++ a; rest_is = sym e; right = (u, g.0) }
entry_follows (x ∷ xs) (y ∷ ys) a b (u ∷ us) (v ∷ vs) g h l e =
    let tails : xs ++ a ≡ ys ++ b = cc in
    entry_follows xs ys a b us vs g.1 h.1 (omega arith) tails

same_count : (word : List ℕ) (us vs : List Vector) (m n : ℕ) (xs ys a b : List Line) (g : IsBegun word us m xs) (h : IsBegun word vs n ys) → xs ++ a ≡ ys ++ b
    → (length us + m ≡ length vs + n) × (g.entries ++ a ≡ h.entries ++ b)
same_count word us vs m n xs ys a b g h e =
    let whole : g.head ∷ (g.entries ++ a) ≡ h.head ∷ (h.entries ++ b) = sym (ap (λ (x : List Line). x ++ a) g.lines_are) ∙ e ∙ ap (λ (x : List Line). x ++ b) h.lines_are in
    let heads : h.head ≡ g.head = cc in
    (count_fixed word _ _ g.head g.count (subst (λ (x : Line). IsCountLine word (length vs + n) x) heads h.count), cc)

list_fixed : (word : List ℕ) (us vs : List Vector) (xs ys a b : List Line) → AreListLines word us xs → AreListLines word vs ys → xs ++ a ≡ ys ++ b → (us ≡ vs) × (a ≡ b)
list_fixed word us vs xs ys a b g h e =
    let s = same_count word us vs 0 0 xs ys a b g h e in
    entries_fixed g.entries h.entries a b us vs g.vectors h.vectors (omega (arith, s.0)) s.1

list_follows : (word : List ℕ) (us : List Vector) (xs a good b : List Line) (due : Due) → AreListLines word us xs → IsDueInList word good due → xs ++ a ≡ good ++ b → Follows due b
list_follows word us xs a good b (count_of w) g h e =
    let rest_is : b ≡ g.head ∷ (g.entries ++ a) = sym (ap (λ (x : List Line). x ++ b) h.0) ∙ sym e ∙ ap (λ (x : List Line). x ++ a) g.lines_are in
    record {
      line = g.head;
      later = g.entries ++ a;
      rest_is = rest_is;
      right = (length us + 0, g.at_least, g.at_most, subst (λ (x : List ℕ). IsCountLine x (length us + 0) g.head) (sym h.1) g.count);
    }
list_follows word us xs a good b four_numbers g (vs, left, some, h) e =
    let s = same_count word us vs 0 left xs good a b g h e in
    entry_follows g.entries h.entries a b us vs g.vectors h.vectors (omega (arith, s.0)) s.1
list_follows word us xs a good b nothing g h e = absurd h

-- ---- the lines of a pair

pub pair_fixed : (p q : VertexLists) (all : List Line) → ArePairLines p all → ArePairLines q all → p ≡ q
pair_fixed p q all g h =
    let r = list_fixed (codes "vertices") p.vertices q.vertices g.first h.first g.second h.second g.vertices h.vertices (sym g.lines_are ∙ h.lines_are) in
    let s = list_fixed (codes "dual") p.dual q.dual g.second h.second [] [] g.dual h.dual (ap (λ (x : List Line). x ++ []) r.1) in
    ap (λ (x : List Vector). record { vertices = x; dual = p.dual }) r.0 ∙ ap (λ (x : List Vector). record { vertices = q.vertices; dual = x }) s.0

pair_ends : (p q : VertexLists) (all good rest : List Line) → ArePairLines p all → ArePairLines q good → all ≡ good ++ rest → [] ≡ rest
pair_ends p q all good rest g h e =
    let whole : g.first ++ g.second ≡ h.first ++ (h.second ++ rest) = sym g.lines_are ∙ e ∙ ap (λ (x : List Line). x ++ rest) h.lines_are ∙ append_assoc h.first h.second rest in
    let r = list_fixed (codes "vertices") p.vertices q.vertices g.first h.first g.second (h.second ++ rest) g.vertices h.vertices whole in
    let s = list_fixed (codes "dual") p.dual q.dual g.second h.second [] rest g.dual h.dual (append-nil g.second ∙ r.1) in
    s.1

-- either all lines are good and nothing is due, or a line with what is due follows
pub pair_follows : (p : VertexLists) (all good rest : List Line) (due : Due) → ArePairLines p all → IsDue good due → all ≡ good ++ rest → ((due ≡ nothing) × ([] ≡ rest)) ⊎ Follows due rest
pair_follows p all good rest due g (in_vertices h) e =
    inr (list_follows (codes "vertices") p.vertices g.first g.second good rest due g.vertices h (sym g.lines_are ∙ e))
pair_follows p all good rest due g (in_dual h) e =
    let whole : g.first ++ g.second ≡ h.first ++ (h.second ++ rest) = sym g.lines_are ∙ e ∙ ap (λ (x : List Line). x ++ rest) h.lines_are ∙ append_assoc h.first h.second rest in
    let r = list_fixed (codes "vertices") p.vertices h.vertices g.first h.first g.second (h.second ++ rest) g.vertices h.whole whole in
    inr (list_follows (codes "dual") p.dual g.second [] h.second rest due g.dual h.is (append-nil g.second ∙ r.1))
pair_follows p all good rest due g (in_none h) e = inl (h.is, pair_ends p h.pair all good rest g h.whole e)

-- a line of a pair has what is due behind the lines before it
pair_right : (p : VertexLists) (all good later : List Line) (line : Line) (due : Due) → ArePairLines p all → IsDue good due → all ≡ good ++ line ∷ later → IsRight due line
pair_right p all good later line due g d e =
    elim (pair_follows p all good (line ∷ later) due g d e) [
      | inl h ↦ absurd (cc h.1)
      | inr f ↦ let same : f.line ≡ line = cc f.rest_is in subst (IsRight due) same f.right
    ]

-- ---- a line with what is due has no fault

abbrev AreSmall : List ℤ → Type 0
AreSmall zs = (k : ℕ) (z : ℤ) → k < length zs → get_or zs k z ≡ z → unsigned_abs z ≤ 1023

count_small : (n : ℕ) → n ≤ 64 → AreSmall (pos n ∷ [])
count_small n h zero z l e = subst (λ (y : ℤ). unsigned_abs y ≤ 1023) e (omega arith)
count_small n h (suc k) z l e = absurd (omega arith)

vector_small : (v : Vector) → IsSmall v → AreSmall (numbers v)
vector_small v s zero z l e = subst (λ (y : ℤ). unsigned_abs y ≤ 1023) e (small_size v.x1 s.low1 s.high1)
vector_small v s (suc zero) z l e = subst (λ (y : ℤ). unsigned_abs y ≤ 1023) e (small_size v.x2 s.low2 s.high2)
vector_small v s (suc (suc zero)) z l e = subst (λ (y : ℤ). unsigned_abs y ≤ 1023) e (small_size v.x3 s.low3 s.high3)
vector_small v s (suc (suc (suc zero))) z l e = subst (λ (y : ℤ). unsigned_abs y ≤ 1023) e (small_size v.x4 s.low4 s.high4)
vector_small v s (suc (suc (suc (suc k)))) z l e = absurd (omega arith)

right_fields : (due : Due) (line : Line) (ns : List (List ℕ)) → IsRight due line → HasFields due line.fields ns → (zs : List ℤ) × AreNumbers ns zs × AreSmall zs
right_fields (count_of word) line ns (n, low, high, h) f =
    let e : ns ≡ h.field ∷ [] = cc (sym f.0 ∙ h.fields_are) in
    (pos n ∷ [], ap (map number) e ∙ ap (λ (o : Option ℤ). o ∷ []) h.number_is, count_small n high)
right_fields four_numbers line ns (v, h) f = (numbers v, ap (map number) (sym f.0) ∙ h.numbers_are, vector_small v h.small)
right_fields nothing line ns h f = absurd h

pub none_bad : (ns : List (List ℕ)) (zs : List ℤ) (k : ℕ) (x : List ℕ) → AreNumbers ns zs → k < length ns → get_or ns k x ≡ x → number x ≡ None → ⊥
none_bad [] zs k x e l g h = absurd (omega arith)
none_bad (n ∷ ns) [] k x e l g h = absurd cc
none_bad (n ∷ ns) (z ∷ zs) zero x e l g h =
    let s : number n ≡ Some z = cc in
    let t : number n ≡ None = ap number g ∙ h in
    absurd cc
none_bad (n ∷ ns) (z ∷ zs) (suc k) x e l g h = (let t : AreNumbers ns zs = cc in none_bad ns zs k x t (omega arith) g h)

abbrev pub NeverWrong : (Due → List (List ℕ) → Type 0) → Type 0
NeverWrong W = (due : Due) (line : Line) → IsRight due line → W due line.fields → ⊥

pub never_bad : NeverWrong IsBadLine
never_bad (count_of word) line (n, low, high, h) w = w.1 (h.field ∷ []) (h.fields_are, refl)
never_bad four_numbers line (v, h) w = w.1 line.fields (refl, sym (length-map line.fields number) ∙ ap length h.numbers_are)
never_bad nothing line h w = h

pub never_none : NeverWrong IsBadNumber
never_none due line h w =
    let r = right_fields due line w.ns h w.has in
    none_bad w.ns r.0 w.bad.0 w.bad.1 r.1 w.bad.2 w.bad.3 w.bad.4

pub never_large : NeverWrong IsTooLarge
never_large due line h w =
    let r = right_fields due line w.ns h w.has in
    let small : AreSmall w.zs = subst AreSmall (numbers_fixed r.0 w.zs (sym r.1 ∙ w.are)) r.2 in
    let s : unsigned_abs w.large.1 ≤ 1023 = small w.large.0 w.large.1 w.large.2 w.large.3 in
    let l : 1023 < unsigned_abs w.large.1 = w.large.4 in
    omega arith

pub never_out : NeverWrong IsBadCount
never_out due line h w =
    let r : IsRight (count_of w.word) line = subst (λ (d : Due). IsRight d line) w.due_is h in
    let c = r.3 in
    let f : c.field ≡ w.field = cc (sym c.fields_are ∙ w.fields_are) in
    let e : Some (pos r.0) ≡ Some w.count = sym c.number_is ∙ ap number f ∙ w.number_is in
    let n : pos r.0 ≡ w.count = cc in
    let low : 5 ≤ r.0 = r.1 in
    let high : r.0 ≤ 64 = r.2 in
    w.range (subst (λ (z : ℤ). (pos 5 ≤ℤ z) × (z ≤ℤ pos 64)) n (omega (arith, ints), omega (arith, ints)))

pub never_long : NeverWrong IsLong
never_long due line h w = let r : IsRight nothing line = subst (λ (d : Due). IsRight d line) w h in r

pair_never : (W : Due → List (List ℕ) → Type 0) → NeverWrong W → (p : VertexLists) (all : List Line) (number : ℕ) → ArePairLines p all → IsFirstWrong IsDue W all number → ⊥
pair_never W never p all number g r = never r.due r.line (pair_right p all r.good r.later r.line r.due g r.next r.lines_are) r.wrong

pair_never_ends : (p : VertexLists) (all : List Line) → ArePairLines p all → EndsEarly IsDue all → ⊥
pair_never_ends p all g r =
    elim (pair_follows p all all [] r.due g r.next (sym (append-nil all))) [
      | inl h ↦ r.more h.0
      | inr f ↦ let e : [] ≡ f.line ∷ f.later = f.rest_is in absurd cc
    ]

-- the lines of a pair have no fault
pub pair_cause : (p : VertexLists) (all : List Line) (fault : TextFault) → ArePairLines p all → IsCauseIn IsDue all fault → fault ≡ Memory
pair_cause p all (BadLine n) g r = absurd (pair_never IsBadLine never_bad p all n g r)
pair_cause p all (BadNumber n) g r = absurd (pair_never IsBadNumber never_none p all n g r)
pair_cause p all (TooLarge n) g r = absurd (pair_never IsTooLarge never_large p all n g r)
pair_cause p all (Count n) g r = absurd (pair_never IsBadCount never_out p all n g r)
pair_cause p all (Long n) g r = absurd (pair_never IsLong never_long p all n g r)
pair_cause p all Short g r = absurd (pair_never_ends p all g r)
pair_cause p all Memory g r = refl

-- so what was read of the lines of a pair is this pair
pub pair_read : (all : List Line) (r : Result VertexLists TextFault) → IfOk r (λ q. ArePairLines q all) → IfErr r (λ fault. IsCauseIn IsDue all fault) → (p : VertexLists) → ArePairLines p all
    → MatchResult r (λ q. q ≡ p) (λ fault. fault ≡ Memory)
pair_read all (Ok q) h k p g = pair_fixed q p all h g
pair_read all (Err fault) h k p g = pair_cause p all fault g k
