-- Where a stream stands before and after its answers.
use Rattle.std.proofs.Common.{◌≡◌, ℕ, ◌+◌, refl, sym, ap, ◌∙◌, subst, arith, List, [], ◌++◌, Bool, true, false, Option, Some, None}
use Rattle.std.specs.Prelude.{MatchBool, MatchOption}
use Rattle.ntfe_model.specs.Charts.{Patch, AreSteps}
use Rattle.ntfe_model.specs.Lists.{IsBelow}
use Rattle.ntfe_model.specs.Words.{IsItem, Closes}
use Rattle.ntfe_model.specs.declared.triangle.Triangle.{Triangle}
use Rattle.ntfe_model.specs.declared.triangulation.Triangulation.{Triangulation}
use Rattle.ntfe_model.specs.Charts.{AreApart}
use Rattle.fine_stream.specs.Paths.{AreOf, IsPart, Completes}
use Rattle.fine_stream.specs.Found.{BeginsAfter, IsFirst, HasNone, Adds, AddsNone}
use Rattle.fine_stream.specs.Kept.{Keeps, spelled}
use Rattle.fine_stream.specs.Cursors.{Cursor, IsCursor, IsStanding, IsPlace, Follows, IsWhole, LeadsTo, FindsFirst, FindsNone, IsFoundItem, IsFoundAfter, IsNextItem}
use Rattle.fine_stream.specs.Places.{ArePlaced, AreTables}
use Rattle.fine_stream.specs.declared.find.Found.{Found}
use Rattle.fine_stream.specs.declared.tables.Tables.{Tables}
use Rattle.fine_stream.specs.declared.path.Path.{Path}
use Rattle.fine_stream.specs.declared.position.Position.{Position}
use Rattle.fine_stream.specs.declared.position.Position.TheVariants.{Start, After, End}
use Rattle.fine_stream.proofs.Searches.{begins_any}
use Rattle.fine_stream.proofs.Going.{closed_triangles}
use Rattle.fine_stream.proofs.Waiting.{triangulation_completes, steps_of}
use Rattle.fine_stream.proofs.Numbers.{first_item, no_item, end_none}

-- ---- the path of the last item

pub empty_keeps : (root : List (ℕ × ℕ)) (p : Path) → p.word.items ≡ [] → p.triangles.items ≡ [] → p.steps.items ≡ root → p.starts.items ≡ [] → Keeps root [] p
empty_keeps root p w t f s = record { word = w; all = t; waiting = f; starts = s; closes = tt }

pub start_points : (h : Patch) (position : Position) (p : Path) → position ≡ Start → LeadsTo h position p → AreOf h p.steps.items
start_points h position p e l =
    let A : Position → Type 0 = λ q. LeadsTo h q p in let P : List (ℕ × ℕ) → Type 0 = λ es. AreOf h es in by (subst A e l)
  where
    by : ((root : List (ℕ × ℕ)) × AreSteps h root × Keeps root [] p) → AreOf h p.steps.items
    by (root, are, k) = let P : List (ℕ × ℕ) → Type 0 = λ es. AreOf h es in subst P (sym k.waiting) (steps_of h root are)

pub start_part : (h : Patch) (position : Position) (p : Path) → position ≡ Start → LeadsTo h position p → IsPart h p.triangles.items
start_part h position p e l = let A : Position → Type 0 = λ q. LeadsTo h q p in by (subst A e l)
  where
    by : ((root : List (ℕ × ℕ)) × AreSteps h root × Keeps root [] p) → IsPart h p.triangles.items
    by (root, are, k) =
        let P : List Triangle → Type 0 = λ us. IsPart h us in
        subst P (sym k.all) (record { unit = λ i d l. absurd (omega (arith, l)); compatible = λ i j d l m. absurd (omega (arith, m)) })

-- the word of the last item leads from the boundary to the end
pub last_closes : (h : Patch) (steps : List (ℕ × ℕ)) (position : Position) (word last : List ℕ) → AreSteps h steps → position ≡ After word → last ≡ word
    → ((n : ℕ) × IsPlace h n position) → (us : List Triangle) × Completes h [] steps last us
last_closes h steps position word last are e f p = let A : Position → Type 0 = λ z. (n : ℕ) × IsPlace h n z in by (subst A e p)
  where
    by : ((n : ℕ) × IsPlace h n (After word)) → (us : List Triangle) × Completes h [] steps last us
    by (n, (m, x, i, q, r)) =
        let B : List ℕ → Type 0 = λ w. Completes h [] steps w x.triangles in (x.triangles, subst B (q ∙ sym f) (triangulation_completes h steps x are i.is))

pub last_path : (h : Patch) (steps : List (ℕ × ℕ)) (position : Position) (word last : List ℕ) (p : Path) (us : List Triangle) → AreSteps h steps → position ≡ After word → last ≡ word
    → Completes h [] steps last us → ((r : List ℕ) × Keeps steps r p × (spelled r ≡ last)) → LeadsTo h position p
last_path h steps position word last p us are e f k (r, m, g) =
    let A : Position → Type 0 = λ q. LeadsTo h q p in
    let C : List ℕ → Type 0 = λ w. Completes h [] steps w us in
    let D : List Triangle → Type 0 = λ vs. Completes h [] steps p.word.items vs in
    let same : p.word.items ≡ last = m.word ∙ g in
    let here = subst C (sym same) k in
    let all : us ≡ p.triangles.items =
    closed_triangles steps r us (let P : List ℕ → Type 0 = λ w. Closes steps w us in subst P (sym g) k.closes) ∙ sym m.all in
    subst A (sym e) (record { root = steps; boundary = are; completes = subst D all here; numbers = r; keeps = m }, same ∙ f)

-- ---- what is found from a position

answer_same : (h : Patch) (P Q : List ℕ → Type 0) (found : Bool) (p : Path) → ((v : List ℕ) → P v → Q v) → ((v : List ℕ) → Q v → P v)
    → MatchBool found (FindsFirst h P p) (FindsNone h P) → MatchBool found (FindsFirst h Q p) (FindsNone h Q)
answer_same h P Q true p f g a = record {
  root = a.root;
  boundary = a.boundary;
  is = record { completes = a.is.completes; has = f p.word.items a.is.has; first = λ v vs k q. a.is.first v vs k (g v q) };
  numbers = a.numbers;
  keeps = a.keeps;
}
answer_same h P Q false p f g a = record { root = a.root; boundary = a.boundary; none = λ v vs k q. a.none v vs k (g v q) }

pub start_answer : (h : Patch) (position : Position) (found : Bool) (before after : Path) → position ≡ Start → LeadsTo h position before
    → MatchBool found (Adds h before.steps.items (BeginsAfter None) before after) (AddsNone h before.steps.items (BeginsAfter None) before after)
    → MatchBool found (FindsFirst h (Follows position) after) (FindsNone h (Follows position))
start_answer h position found before after e l a =
    let A : Position → Type 0 = λ p. MatchBool found (FindsFirst h (Follows p) after) (FindsNone h (Follows p)) in
    let B : Position → Type 0 = λ p. LeadsTo h p before in
    subst A (sym e) (answer_same h (BeginsAfter None) (Follows Start) found after (λ v p. tt) (λ v p. begins_any v) (by found (subst B e l) a))
  where
    by : (found : Bool) → ((root : List (ℕ × ℕ)) × AreSteps h root × Keeps root [] before)
        → MatchBool found (Adds h before.steps.items (BeginsAfter None) before after) (AddsNone h before.steps.items (BeginsAfter None) before after)
        → MatchBool found (FindsFirst h (BeginsAfter None) after) (FindsNone h (BeginsAfter None))
    by true (root, are, k) a =
        let n = a.kept root [] k k.waiting in
        let P : List Triangle → Type 0 = λ us. IsFirst h us before.steps.items (BeginsAfter None) a.word a.triangles in
        let Q : List (ℕ × ℕ) → Type 0 = λ es. IsFirst h [] es (BeginsAfter None) a.word a.triangles in
        let R : List ℕ → Type 0 = λ w. IsFirst h [] root (BeginsAfter None) w a.triangles in
        let S : List Triangle → Type 0 = λ us. IsFirst h [] root (BeginsAfter None) after.word.items us in
        record {
          root = root;
          boundary = are;
          is = subst S (sym (a.all ∙ ap (λ us. us ++ a.triangles) k.all)) (subst R (sym (a.words ∙ ap (λ w. w ++ a.word) k.word)) (subst Q k.waiting (subst P k.all a.is)));
          numbers = n.0;
          keeps = n.1;
        }
    by false (root, are, k) a =
        let P : List Triangle → Type 0 = λ us. HasNone h us before.steps.items (BeginsAfter None) in
        let Q : List (ℕ × ℕ) → Type 0 = λ es. HasNone h [] es (BeginsAfter None) in
        record { root = root; boundary = are; none = subst Q k.waiting (subst P k.all a.none) }

-- the path of an item is a whole one
pub whole_of : (h : Patch) (position : Position) (word : List ℕ) (p : Path) → position ≡ After word → LeadsTo h position p → IsWhole h p × (p.word.items ≡ word)
whole_of h position word p e l = let A : Position → Type 0 = λ q. LeadsTo h q p in subst A e l

pub after_answer : (h : Patch) (position : Position) (word : List ℕ) (found : Bool) (before after : Path) → position ≡ After word → LeadsTo h position before
    → MatchBool found (FindsFirst h (IsBelow before.word.items) after) (FindsNone h (IsBelow before.word.items)) → MatchBool found (FindsFirst h (Follows position) after) (FindsNone h (Follows position))
after_answer h position word found before after e l a =
    let A : Position → Type 0 = λ p. MatchBool found (FindsFirst h (Follows p) after) (FindsNone h (Follows p)) in
    let C : List ℕ → Type 0 = λ w. MatchBool found (FindsFirst h (IsBelow w) after) (FindsNone h (IsBelow w)) in
    subst A (sym e) (subst C (whole_of h position word before e l).1 a)

pub end_answer : (h : Patch) (steps : List (ℕ × ℕ)) (position : Position) → AreSteps h steps → position ≡ End → FindsNone h (Follows position)
end_answer h steps position are e =
    let A : Position → Type 0 = λ p. FindsNone h (Follows p) in subst A (sym e) (record { root = steps; boundary = are; none = λ v vs k p. p })

-- ---- the item

pub find_none : (h : Patch) (position : Position) → AreApart h → FindsNone h (Follows position) → (n : ℕ) → IsPlace h n position → IsPlace h n End
find_none h position apart f n p = no_item h apart f.root f.boundary position f.none n p

pub find_item : (h : Patch) (position : Position) (found : Found) → AreApart h → found.item.word ≡ found.path.word.items → found.item.triangles ≡ found.path.triangles.items
    → FindsFirst h (Follows position) found.path → IsFoundItem h position found
find_item h position found apart g k f = record {
  item = λ n p.
      let i = first_item h apart f.root f.boundary position found.path.word.items found.path.triangles.items f.is n p in
      let B : Triangulation → Type 0 = λ y. IsItem h n y in
      subst B (λ j. record { word = sym g j; triangles = sym k j }) i;
  path = (record { root = f.root; boundary = f.boundary; completes = f.is.completes; numbers = f.numbers; keeps = f.keeps }, sym g);
}

-- ---- the stream

found_none : (h : Patch) (p : Position) (o : Option Found) → IsFoundAfter h p o → o ≡ None → (n : ℕ) → IsPlace h n p → IsPlace h n End
found_none h p o f e = let A : Option Found → Type 0 = λ q. IsFoundAfter h p q in let r : ((n : ℕ) → IsPlace h n p → IsPlace h n End) = subst A e f in r

found_some : (h : Patch) (p : Position) (o : Option Found) (x : Found) → IsFoundAfter h p o → o ≡ Some x → IsFoundItem h p x
found_some h p o x f e = let A : Option Found → Type 0 = λ q. IsFoundAfter h p q in let r : IsFoundItem h p x = subst A e f in r

pub place_next : (h : Patch) (n : ℕ) (x : Triangulation) (word : List ℕ) → IsItem h n x → word ≡ x.word → IsPlace h (n + 1) (After word)
place_next h n x word i e = (n, x, i, sym e, refl)

pub cursor_end : (h : Patch) (p : Position) (t : Tables) (o : Option Found) (kept : Option Path) → IsFoundAfter h p o → o ≡ None → IsCursor (record { patch = h; position = p }) → AreTables h t → kept ≡ None
    → IsStanding h End t kept
cursor_end h p t o kept f e (n, s) tables k =
    let P : Option Path → Type 0 = λ q. IsStanding h End t q in
    subst P (sym k) (record { cursor = (n, record { place = found_none h p o f e n s.place }); path = tt; tables = tables; placed = tt })

pub cursor_next : (h : Patch) (p : Position) (t : Tables) (o : Option Found) (x : Found) (word : List ℕ) → IsFoundAfter h p o → o ≡ Some x → word ≡ x.item.word
    → IsCursor (record { patch = h; position = p }) → AreTables h t → MatchOption o (Unit {0}) (λ y. ArePlaced t y.path) → IsStanding h (After word) t (Some x.path)
cursor_next h p t o x word f e g (n, s) tables placed =
    let i = found_some h p o x f e in
    let P : Option Found → Type 0 = λ q. MatchOption q (Unit {0}) (λ y. ArePlaced t y.path) in record {
      cursor = (n + 1, record { place = place_next h n x.item word (i.item n s.place) g });
      path = (i.path.0, i.path.1 ∙ sym g);
      tables = tables;
      placed = let r : ArePlaced t x.path = subst P e placed in r;
    }

pub answer_end : (h : Patch) (p : Position) (old : Cursor) (o : Option Found) → (let c : Cursor = record { patch = h; position = p } in c ≡ old) → IsFoundAfter h p o → o ≡ None
    → IsNextItem old (record { patch = h; position = End }) None
answer_end h p old o v f e =
    let A : Cursor → Type 0 = λ c. IsNextItem c (record { patch = h; position = End }) None in
    subst A v (refl, λ n s. (let q = found_none h p o f e n s.place in (record { place = q }, end_none h n n q (omega arith))))

pub answer_next : (h : Patch) (p : Position) (old : Cursor) (o : Option Found) (x : Found) (word : List ℕ) → (let c : Cursor = record { patch = h; position = p } in c ≡ old)
    → IsFoundAfter h p o → o ≡ Some x → word ≡ x.item.word → IsNextItem old (record { patch = h; position = After word }) (Some x.item)
answer_next h p old o x word v f e g =
    let A : Cursor → Type 0 = λ c. IsNextItem c (record { patch = h; position = After word }) (Some x.item) in
    subst A v (ap After g, λ n s. (let i = (found_some h p o x f e).item n s.place in (record { place = place_next h n x.item word i g }, i)))
