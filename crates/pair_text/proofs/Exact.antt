-- A text has one fault at most.
use Rattle.std.proofs.Common.{◌≡◌, ◌≢◌, ℕ, ◌+◌, ◌<◌, ◌≤◌, zero, suc, ◌⊎◌, ℤ, List, [], ◌∷◌, ◌++◌, length, map, get_or, replicate, Option, refl, sym, ap, ◌∙◌, subst, append_assoc, inl, inr, Result, Ok, Err, IfOk, IfErr, MatchResult, arith}
use Rattle.std.specs.Prelude.{codes, unsigned_abs}
use Rattle.std.specs.List.{AllZip}
use Rattle.std.proofs.lemmas.Int.{ints}
use Rattle.std.proofs.lemmas.Bool.{cases_order}
use Rattle.std.proofs.lemmas.List.{append-nil, length-append, length-replicate, length-map}
use Rattle.ntfe_nums.specs.Vectors.{Vector, origin}
use Rattle.ntfe_model.specs.Pairs.{VertexLists}
use Rattle.ntfe_model.specs.PairText.{Line, Due, count_of, four_numbers, nothing, number, AreNumbers, IsCountLine, IsVectorLine, IsBegun, AreListLines, ArePairLines, IsDueInList, IsDue, in_vertices, in_dual, in_none, HasFields, IsBadLine, IsBadNumber, IsTooLarge, IsBadCount, IsLong, IsFirstWrong}
use Rattle.pair_text.specs.declared.fault.TextFault.{TextFault}
use Rattle.pair_text.specs.declared.fault.TextFault.TheVariants.{BadLine, BadNumber, TooLarge, Count, Short, Long, Memory}
use Rattle.pair_text.specs.Faults.{IsCauseIn, IsFaultOf}
use Rattle.pair_text.proofs.Unique.{IsRight, Follows, numbers_fixed, pair_follows, none_bad, never_bad, never_none, never_large, never_out, never_long, pair_cause}

-- ---- good lines begin the lines of some pair

abbrev zero_line : Line
zero_line = record { number = 0; fields = (48 ∷ []) ∷ (48 ∷ []) ∷ (48 ∷ []) ∷ (48 ∷ []) ∷ [] }

zero_vector : IsVectorLine zero_line origin
zero_vector = record {
  numbers_are = refl;
  small = record {
    low1 = omega (arith, ints);
    high1 = omega (arith, ints);
    low2 = omega (arith, ints);
    high2 = omega (arith, ints);
    low3 = omega (arith, ints);
    high3 = omega (arith, ints);
    low4 = omega (arith, ints);
    high4 = omega (arith, ints);
  };
}

zeros_more : (n : ℕ) (lines : List Line) (vs : List Vector) → AllZip IsVectorLine lines vs → AllZip IsVectorLine (lines ++ replicate n zero_line) (vs ++ replicate n origin)
zeros_more zero [] [] h = tt
zeros_more (suc n) [] [] h = (zero_vector, zeros_more n [] [] h)
zeros_more n [] (v ∷ vs) h = absurd h
zeros_more n (l ∷ ls) [] h = absurd h
zeros_more n (l ∷ ls) (v ∷ vs) h = (h.0, zeros_more n ls vs h.1)

-- lines and some more of them are the lines of a list
record Begins (word : List ℕ) (good : List Line) : Type 0 where
  vectors : List Vector
  extra : List Line
  whole : AreListLines word vectors (good ++ extra)

begun_begins : (word : List ℕ) (vs : List Vector) (left : ℕ) (good : List Line) → IsBegun word vs left good → Begins word good
begun_begins word vs left good b =
    let all = vs ++ replicate left origin in
    let n : length vs + left ≡ length all + 0 = omega (arith, length-append vs (replicate left origin), length-replicate left origin) in
    record {
      vectors = all;
      extra = replicate left zero_line;
      whole = record {
        head = b.head;
        entries = b.entries ++ replicate left zero_line;
        lines_are = ap (λ (x : List Line). x ++ replicate left zero_line) b.lines_are;
        count = subst (λ (k : ℕ). IsCountLine word k b.head) n b.count;
        at_least = omega (arith, n, b.at_least);
        at_most = omega (arith, n, b.at_most);
        vectors = zeros_more left b.entries vs b.vectors;
      };
    }

abbrev five_line : List ℕ → Line
five_line word = record { number = 0; fields = word ∷ (53 ∷ []) ∷ [] }

five_begun : (word : List ℕ) → IsBegun word [] 5 (five_line word ∷ [])
five_begun word = record {
  head = five_line word;
  entries = [];
  lines_are = refl;
  count = record { field = 53 ∷ []; fields_are = refl; number_is = refl };
  at_least = omega arith;
  at_most = omega arith;
  vectors = tt;
}

nothing_begins : (word : List ℕ) → Begins word []
nothing_begins word =
    let b = begun_begins word [] 5 (five_line word ∷ []) (five_begun word) in
    record { vectors = b.vectors; extra = (five_line word ∷ []) ++ b.extra; whole = b.whole }

list_begins : (word : List ℕ) (good : List Line) (due : Due) → IsDueInList word good due → Begins word good
list_begins word good (count_of w) h = subst (Begins word) (sym h.0) (nothing_begins word)
list_begins word good four_numbers (vs, left, some, h) = begun_begins word vs left good h
list_begins word good nothing h = absurd h

record BeginsPair (good : List Line) : Type 0 where
  pair : VertexLists
  extra : List Line
  whole : ArePairLines pair (good ++ extra)

pair_begins : (good : List Line) (due : Due) → IsDue good due → BeginsPair good
pair_begins good due (in_vertices h) =
    let b = list_begins (codes "vertices") good due h in
    let d = nothing_begins (codes "dual") in
    record {
      pair = record { vertices = b.vectors; dual = d.vectors };
      extra = b.extra ++ d.extra;
      whole = record { first = good ++ b.extra; second = d.extra; lines_are = sym (append_assoc good b.extra d.extra); vertices = b.whole; dual = d.whole };
    }
pair_begins good due (in_dual h) =
    let d = list_begins (codes "dual") h.second due h.is in
    record {
      pair = record { vertices = h.vertices; dual = d.vectors };
      extra = d.extra;
      whole = record {
        first = h.first;
        second = h.second ++ d.extra;
        lines_are = ap (λ (x : List Line). x ++ d.extra) h.lines_are ∙ append_assoc h.first h.second d.extra;
        vertices = h.whole;
        dual = d.whole;
      };
    }
pair_begins good due (in_none h) = record { pair = h.pair; extra = []; whole = subst (ArePairLines h.pair) (sym (append-nil good)) h.whole }

-- ---- what is due is determined

right_fixed : (due other : Due) (line : Line) → IsRight due line → IsRight other line → due ≡ other
right_fixed (count_of v) (count_of w) line (m, l, h, a) (n, k, i, b) =
    let e : v ≡ w = cc (sym a.fields_are ∙ b.fields_are) in
    ap count_of e
right_fixed (count_of v) four_numbers line (m, l, h, a) (u, b) =
    absurd (omega (arith, ap length a.fields_are, length-map line.fields number, ap length b.numbers_are))
right_fixed (count_of v) nothing line g h = absurd h
right_fixed four_numbers (count_of w) line (u, b) (m, l, h, a) =
    absurd (omega (arith, ap length a.fields_are, length-map line.fields number, ap length b.numbers_are))
right_fixed four_numbers four_numbers line g h = refl
right_fixed four_numbers nothing line g h = absurd h
right_fixed nothing other line g h = absurd g

due_fixed : (good : List Line) (due other : Due) → IsDue good due → IsDue good other → due ≡ other
due_fixed good due other g h =
    let b = pair_begins good due g in
    elim (pair_follows b.pair (good ++ b.extra) good b.extra due b.whole g refl) [
      | inl x ↦
          elim (pair_follows b.pair (good ++ b.extra) good b.extra other b.whole h refl) [
            | inl y ↦ x.0 ∙ sym y.0
            | inr f ↦ absurd (cc (x.1 ∙ f.rest_is))
          ]
      | inr f ↦
          elim (pair_follows b.pair (good ++ b.extra) good b.extra other b.whole h refl) [
            | inl y ↦ absurd (cc (y.1 ∙ f.rest_is))
            | inr k ↦
                let same : k.line ≡ f.line = cc (sym k.rest_is ∙ f.rest_is) in
                right_fixed due other f.line f.right (subst (IsRight other) same k.right)
          ]
    ]

-- ---- the line behind good lines is determined

record Between (good other rest more : List Line) : Type 0 where
  line : Line
  mid : List Line
  other_is : other ≡ good ++ line ∷ mid
  rest_is : rest ≡ line ∷ (mid ++ more)

between : (good other rest more : List Line) → length good < length other → good ++ rest ≡ other ++ more → Between good other rest more
between good [] rest more l e = absurd (omega arith)
between [] (y ∷ ys) rest more l e = record { line = y; mid = ys; other_is = refl; rest_is = e }
between (x ∷ xs) (y ∷ ys) rest more l e =
    let heads : y ≡ x = cc in
    let tails : xs ++ rest ≡ ys ++ more = cc in
    let b = between xs ys rest more (omega arith) tails in
    record { line = b.line; mid = b.mid; other_is = cc (heads, b.other_is); rest_is = b.rest_is }

-- where good lines go on to more good lines, the first of these has what is due
shorter_right : (good other rest more all : List Line) (due next : Due) → IsDue good due → IsDue other next → all ≡ good ++ rest → all ≡ other ++ more → length good < length other → Follows due rest
shorter_right good other rest more all due next g h e f l =
    let m = between good other rest more l (sym e ∙ f) in
    let b = pair_begins other next h in
    let whole : other ++ b.extra ≡ good ++ m.line ∷ (m.mid ++ b.extra) = ap (λ (x : List Line). x ++ b.extra) m.other_is ∙ append_assoc good (m.line ∷ m.mid) b.extra in
    elim (pair_follows b.pair (other ++ b.extra) good (m.line ∷ (m.mid ++ b.extra)) due b.whole g whole) [
      | inl x ↦ absurd (cc x.1)
      | inr f ↦
          let same : f.line ≡ m.line = cc f.rest_is in
          record { line = m.line; later = m.mid ++ more; rest_is = m.rest_is; right = subst (IsRight due) same f.right }
    ]

-- the first lines behind which not what is due follows
record Stops (all : List Line) (good rest : List Line) (due : Due) : Type 0 where
  lines_are : all ≡ good ++ rest
  next : IsDue good due
  stops : Follows due rest → ⊥

same_length : (all good other rest more : List Line) (due next : Due) → Stops all good rest due → Stops all other more next → length good ≡ length other
same_length all good other rest more due next g h =
    elim (cases_order (length good) (length other)) [
      | inl e ↦ e
      | inr d ↦
          elim d [
            | inl l ↦ absurd (g.stops (shorter_right good other rest more all due next g.next h.next g.lines_are h.lines_are l))
            | inr l ↦ absurd (h.stops (shorter_right other good more rest all next due h.next g.next h.lines_are g.lines_are l))
          ]
    ]

same_parts : (good other rest more : List Line) → length good ≡ length other → good ++ rest ≡ other ++ more → (good ≡ other) × (rest ≡ more)
same_parts [] [] rest more l e = (refl, e)
same_parts [] (y ∷ ys) rest more l e = absurd (omega arith)
same_parts (x ∷ xs) [] rest more l e = absurd (omega arith)
same_parts (x ∷ xs) (y ∷ ys) rest more l e =
    let heads : x ≡ y = cc in
    let tails : xs ++ rest ≡ ys ++ more = cc in
    let r = same_parts xs ys rest more (omega arith) tails in
    (cc (heads, r.0), r.1)

stops_fixed : (all good other rest more : List Line) (due next : Due) → Stops all good rest due → Stops all other more next → (rest ≡ more) × (due ≡ next)
stops_fixed all good other rest more due next g h =
    let p = same_parts good other rest more (same_length all good other rest more due next g h) (sym g.lines_are ∙ h.lines_are) in
    (p.1, due_fixed other due next (subst (λ (x : List Line). IsDue x due) p.0 g.next) h.next)

-- ---- a line has one fault

never_fault : (due : Due) (line : Line) (fault : TextFault) → IsRight due line → IsFaultOf due line fault → ⊥
never_fault due line (BadLine n) h w = never_bad due line h w.1
never_fault due line (BadNumber n) h w = never_none due line h w.1
never_fault due line (TooLarge n) h w = never_large due line h w.1
never_fault due line (Count n) h w = never_out due line h w.1
never_fault due line (Long n) h w = never_long due line h w.1
never_fault due line Short h w = w
never_fault due line Memory h w = w

fields_fixed : (due : Due) (fs ns ms : List (List ℕ)) → HasFields due fs ns → HasFields due fs ms → ns ≡ ms
fields_fixed (count_of word) fs ns ms g h = cc (sym g.0 ∙ h.0)
fields_fixed four_numbers fs ns ms g h = sym g.0 ∙ h.0
fields_fixed nothing fs ns ms g h = absurd g

one_large : (count : ℤ) (zs : List ℤ) → zs ≡ count ∷ [] → unsigned_abs count ≤ 1023 → (k : ℕ) (z : ℤ) → k < length zs → get_or zs k z ≡ z → 1023 < unsigned_abs z → ⊥
one_large count [] e small k z l h large = absurd (omega arith)
one_large count (y ∷ ys) e small zero z l h large =
    let same : count ≡ z = cc in
    let s : unsigned_abs z ≤ 1023 = subst (λ (x : ℤ). unsigned_abs x ≤ 1023) same small in
    absurd (omega arith)
one_large count (y ∷ ys) e small (suc k) z l h large = absurd (omega (arith, ap length e))

module _ (due : Due) (fs : List (List ℕ)) where
  count_fields : (w : IsBadCount due fs) → HasFields due fs (w.field ∷ [])
  count_fields w = subst (λ (d : Due). HasFields d fs (w.field ∷ [])) (sym w.due_is) (w.fields_are, refl)

  count_number : (w : IsBadCount due fs) (ns : List (List ℕ)) → HasFields due fs ns → AreNumbers ns (w.count ∷ [])
  count_number w ns h = ap (map number) (fields_fixed due fs ns (w.field ∷ []) h (count_fields w)) ∙ ap (λ (o : Option ℤ). o ∷ []) w.number_is

  none_or_numbers : (w : IsBadNumber due fs) (zs : List ℤ) → AreNumbers w.ns zs → ⊥
  none_or_numbers w zs e = none_bad w.ns zs w.bad.0 w.bad.1 e w.bad.2 w.bad.3 w.bad.4

  none_or_large : IsBadNumber due fs → IsTooLarge due fs → ⊥
  none_or_large w v = none_or_numbers w v.zs (ap (map number) (fields_fixed due fs w.ns v.ns w.has v.has) ∙ v.are)

  large_or_count : IsTooLarge due fs → IsBadCount due fs → ⊥
  large_or_count w v =
      let e : w.zs ≡ v.count ∷ [] = numbers_fixed w.zs (v.count ∷ []) (sym w.are ∙ count_number v w.ns w.has) in
      one_large v.count w.zs e v.small w.large.0 w.large.1 w.large.2 w.large.3 w.large.4

  no_fields : (ns : List (List ℕ)) → HasFields due fs ns → due ≡ nothing → ⊥
  no_fields ns h e = let g : HasFields nothing fs ns = subst (λ (d : Due). HasFields d fs ns) e h in g

fault_fixed : (due : Due) (line : Line) (fault other : TextFault) → IsFaultOf due line fault → IsFaultOf due line other → fault ≡ other
fault_fixed due line (BadLine m) (BadLine n) g h = ap (λ (k : ℕ). BadLine k) (g.0 ∙ sym h.0)
fault_fixed due line (BadLine m) (BadNumber n) g h = absurd (g.1.1 h.1.ns h.1.has)
fault_fixed due line (BadLine m) (TooLarge n) g h = absurd (g.1.1 h.1.ns h.1.has)
fault_fixed due line (BadLine m) (Count n) g h = absurd (g.1.1 (h.1.field ∷ []) (count_fields due line.fields h.1))
fault_fixed due line (BadLine m) (Long n) g h = absurd (g.1.0 h.1)
fault_fixed due line (BadNumber m) (BadLine n) g h = absurd (h.1.1 g.1.ns g.1.has)
fault_fixed due line (BadNumber m) (BadNumber n) g h = ap (λ (k : ℕ). BadNumber k) (g.0 ∙ sym h.0)
fault_fixed due line (BadNumber m) (TooLarge n) g h = absurd (none_or_large due line.fields g.1 h.1)
fault_fixed due line (BadNumber m) (Count n) g h = absurd (none_or_numbers due line.fields g.1 (h.1.count ∷ []) (count_number due line.fields h.1 g.1.ns g.1.has))
fault_fixed due line (BadNumber m) (Long n) g h = absurd (no_fields due line.fields g.1.ns g.1.has h.1)
fault_fixed due line (TooLarge m) (BadLine n) g h = absurd (h.1.1 g.1.ns g.1.has)
fault_fixed due line (TooLarge m) (BadNumber n) g h = absurd (none_or_large due line.fields h.1 g.1)
fault_fixed due line (TooLarge m) (TooLarge n) g h = ap (λ (k : ℕ). TooLarge k) (g.0 ∙ sym h.0)
fault_fixed due line (TooLarge m) (Count n) g h = absurd (large_or_count due line.fields g.1 h.1)
fault_fixed due line (TooLarge m) (Long n) g h = absurd (no_fields due line.fields g.1.ns g.1.has h.1)
fault_fixed due line (Count m) (BadLine n) g h = absurd (h.1.1 (g.1.field ∷ []) (count_fields due line.fields g.1))
fault_fixed due line (Count m) (BadNumber n) g h = absurd (none_or_numbers due line.fields h.1 (g.1.count ∷ []) (count_number due line.fields g.1 h.1.ns h.1.has))
fault_fixed due line (Count m) (TooLarge n) g h = absurd (large_or_count due line.fields h.1 g.1)
fault_fixed due line (Count m) (Count n) g h = ap (λ (k : ℕ). Count k) (g.0 ∙ sym h.0)
fault_fixed due line (Count m) (Long n) g h = absurd (no_fields due line.fields (g.1.field ∷ []) (count_fields due line.fields g.1) h.1)
fault_fixed due line (Long m) (BadLine n) g h = absurd (h.1.0 g.1)
fault_fixed due line (Long m) (BadNumber n) g h = absurd (no_fields due line.fields h.1.ns h.1.has g.1)
fault_fixed due line (Long m) (TooLarge n) g h = absurd (no_fields due line.fields h.1.ns h.1.has g.1)
fault_fixed due line (Long m) (Count n) g h = absurd (no_fields due line.fields (h.1.field ∷ []) (count_fields due line.fields h.1) g.1)
fault_fixed due line (Long m) (Long n) g h = ap (λ (k : ℕ). Long k) (g.0 ∙ sym h.0)
fault_fixed due line Short other g h = absurd g
fault_fixed due line Memory other g h = absurd g
fault_fixed due line fault Short g h = absurd h
fault_fixed due line fault Memory g h = absurd h

-- ---- so has a text

record StopsBy (all : List Line) (fault : TextFault) : Type 0 where
  good : List Line
  rest : List Line
  due : Due
  at : Stops all good rest due
  why : ((line : Line) × (later : List Line) × (rest ≡ line ∷ later) × IsFaultOf due line fault) ⊎ ((rest ≡ []) × (fault ≡ Short))

line_stops : (W : Due → List (List ℕ) → Type 0) (all : List Line) (number : ℕ) (fault : TextFault) → ((due : Due) (line : Line) → number ≡ line.number → W due line.fields → IsFaultOf due line fault)
    → IsFirstWrong IsDue W all number → StopsBy all fault
line_stops W all number fault f r =
    let is = f r.due r.line r.number_is r.wrong in
    record {
      good = r.good;
      rest = r.line ∷ r.later;
      due = r.due;
      at = record {
        lines_are = r.lines_are;
        next = r.next;
        stops = λ k.
            let same : k.line ≡ r.line = cc (sym k.rest_is) in
            never_fault r.due r.line fault (subst (IsRight r.due) same k.right) is;
      };
      why = inl (r.line, r.later, refl, is);
    }

cause_stops : (all : List Line) (fault : TextFault) → fault ≢ Memory → IsCauseIn IsDue all fault → StopsBy all fault
cause_stops all (BadLine n) m r = line_stops IsBadLine all n (BadLine n) (λ due line e w. (e, w)) r
cause_stops all (BadNumber n) m r = line_stops IsBadNumber all n (BadNumber n) (λ due line e w. (e, w)) r
cause_stops all (TooLarge n) m r = line_stops IsTooLarge all n (TooLarge n) (λ due line e w. (e, w)) r
cause_stops all (Count n) m r = line_stops IsBadCount all n (Count n) (λ due line e w. (e, w)) r
cause_stops all (Long n) m r = line_stops IsLong all n (Long n) (λ due line e w. (e, w)) r
cause_stops all Short m r = record {
  good = all;
  rest = [];
  due = r.due;
  at = record { lines_are = sym (append-nil all); next = r.next; stops = λ k. (let e : [] ≡ k.line ∷ k.later = k.rest_is in absurd cc) };
  why = inr (refl, refl);
}
cause_stops all Memory m r = absurd (m refl)

cause_fixed : (all : List Line) (fault other : TextFault) → StopsBy all fault → StopsBy all other → fault ≡ other
cause_fixed all fault other g h =
    let p = stops_fixed all g.good h.good g.rest h.rest g.due h.due g.at h.at in
    elim g.why [
      | inl x ↦
          elim h.why [
            | inl y ↦
                let same : y.0 ≡ x.0 = cc (sym y.2 ∙ sym p.0 ∙ x.2) in
                let is : IsFaultOf g.due x.0 other = subst (λ (d : Due). IsFaultOf d x.0 other) (sym p.1) (subst (λ (l : Line). IsFaultOf h.due l other) same y.3) in
                fault_fixed g.due x.0 fault other x.3 is
            | inr y ↦ (let e : [] ≡ x.0 ∷ x.1 = sym y.0 ∙ sym p.0 ∙ x.2 in absurd cc)
          ]
      | inr x ↦
          elim h.why [
            | inl y ↦ (let e : [] ≡ y.0 ∷ y.1 = sym x.0 ∙ p.0 ∙ y.2 in absurd cc)
            | inr y ↦ x.1 ∙ sym y.1
          ]
    ]

memory_or_not : (fault : TextFault) → (fault ≡ Memory) ⊎ (fault ≢ Memory)
memory_or_not (BadLine n) = inr (λ e. absurd cc)
memory_or_not (BadNumber n) = inr (λ e. absurd cc)
memory_or_not (TooLarge n) = inr (λ e. absurd cc)
memory_or_not (Count n) = inr (λ e. absurd cc)
memory_or_not (Long n) = inr (λ e. absurd cc)
memory_or_not Short = inr (λ e. absurd cc)
memory_or_not Memory = inl refl

-- what has a fault was refused for this fault
pub fault_read : (all : List Line) (r : Result VertexLists TextFault) → IfOk r (λ q. ArePairLines q all) → IfErr r (λ fault. IsCauseIn IsDue all fault) → (fault : TextFault) → fault ≢ Memory
    → IsCauseIn IsDue all fault → MatchResult r (λ _. ⊥) (λ e. (e ≡ fault) ⊎ (e ≡ Memory))
fault_read all (Ok q) h k fault m r = m (pair_cause q all fault h r)
fault_read all (Err e) h k fault m r =
    elim (memory_or_not e) [
      | inl x ↦ inr x
      | inr x ↦ inl (cause_fixed all e fault (cause_stops all e x k) (cause_stops all fault m r))
    ]
