-- An earlier output, read line by line.
use Rattle.std.proofs.Common.{◌≡◌, ℕ, zero, suc, ◌+◌, ◌<◌, ◌≤◌, inl, inr, Bool, true, false, cond, List, [], ◌∷◌, ◌++◌, length, Some, refl, sym, ap, ◌∙◌, subst, append_assoc, arith}
use Rattle.std.specs.Prelude.{slice_get}
use Rattle.std.proofs.lemmas.List.{append-nil, length-append}
use Rattle.ntfe_model.specs.Lists.{IsLeast}
use Rattle.ntfe_model.specs.RunText.{head_text, nothing_kept}
use Rattle.ntfe_model.specs.Earlier.{Layout, Place, Reading, Reads, IsAllowed, IsKeptOf, head_lines, whole_lines, goes_on, ends_block}
use Rattle.ntfe_model.specs.Earlier.Place.{class_or_end, heights_of, star_of, simplices_of, nothing}
use Rattle.class_text.specs.Earlier.{HasCause, IsShorter, IsBehind, IsDifferent, DiffersAt, IsReadTo, IsFirstRefused, IsRefusedAt, behind}
use Rattle.class_text.specs.Readers.{reading_of}
use Rattle.class_text.specs.declared.reader.Reader.{Reader}
use Rattle.class_text.specs.declared.earlier_fault.EarlierFault.{EarlierFault}
use Rattle.class_text.specs.declared.earlier_fault.EarlierFault.TheVariants.{Head, Body, Memory}

one_more : (done : List (List ℕ)) (line : List ℕ) (all more : List (List ℕ)) → all ≡ line ∷ more → done ++ all ≡ (done ++ line ∷ []) ++ more
one_more done line all more e = ap (λ (xs : List (List ℕ)). done ++ xs) e ∙ sym (append_assoc done (line ∷ []) more)

length_more : (done : List (List ℕ)) (line : List ℕ) (n : ℕ) → length done ≡ n → length (done ++ line ∷ []) ≡ n + 1
length_more done line n e = length-append done (line ∷ []) ∙ ap (λ k. k + 1) e

-- ---- the head

-- the same lines were taken off both
pub record SameSoFar (head bytes due rest : List ℕ) (lines : ℕ) : Type 0 where
  pub done : List (List ℕ)
  pub due_is : whole_lines head ≡ done ++ whole_lines due
  pub rest_is : whole_lines bytes ≡ done ++ whole_lines rest
  pub number : length done ≡ lines
  pub room : lines + length rest ≤ length bytes

pub same_start : (head bytes : List ℕ) → SameSoFar head bytes head bytes 0
same_start head bytes = record { done = []; due_is = refl; rest_is = refl; number = refl; room = omega arith }

at_end : (xs : List (List ℕ)) (y : List ℕ) (ys : List (List ℕ)) → slice_get (xs ++ y ∷ ys) (length xs) ≡ Some y
at_end [] y ys = refl
at_end (x ∷ xs) y ys = at_end xs y ys

pub before_end : (xs ys : List (List ℕ)) (i : ℕ) → i < length xs → slice_get (xs ++ ys) i ≡ slice_get xs i
before_end [] ys i h = absurd (omega arith)
before_end (x ∷ xs) ys zero h = refl
before_end (x ∷ xs) ys (suc i) h = before_end xs ys i (omega arith)

module _ (head bytes due rest : List ℕ) (lines : ℕ) (s : SameSoFar head bytes due rest lines) where
  pub same_more : (line more after : List ℕ) → whole_lines due ≡ line ∷ whole_lines more → whole_lines rest ≡ line ∷ whole_lines after → length rest ≡ length line + 1 + length after
      → SameSoFar head bytes more after (lines + 1)
  same_more line more after e f l = record {
    done = s.done ++ line ∷ [];
    due_is = s.due_is ∙ one_more s.done line _ _ e;
    rest_is = s.rest_is ∙ one_more s.done line _ _ f;
    number = length_more s.done line lines s.number;
    room = omega (arith, s.room);
  }

  pub same_shorter : (line more : List ℕ) → whole_lines due ≡ line ∷ whole_lines more → whole_lines rest ≡ [] → IsShorter head bytes
  same_shorter line more e f =
      let all : whole_lines bytes ≡ s.done = s.rest_is ∙ ap (λ (xs : List (List ℕ)). s.done ++ xs) f ∙ append-nil s.done in (
        whole_lines due,
        (let l : length (whole_lines due) ≡ suc (length (whole_lines more)) = ap length e in omega arith),
        s.due_is ∙ ap (λ (xs : List (List ℕ)). xs ++ whole_lines due) (sym all),
      )

  pub same_behind : whole_lines due ≡ [] → IsBehind head bytes lines rest
  same_behind e =
      let all : whole_lines head ≡ s.done = s.due_is ∙ ap (λ (xs : List (List ℕ)). s.done ++ xs) e ∙ append-nil s.done in
      record { are = s.rest_is ∙ ap (λ (xs : List (List ℕ)). xs ++ whole_lines rest) (sym all); number = sym s.number ∙ ap length (sym all); room = s.room }

  none_before : (i : ℕ) → i < length s.done → ¬ (DiffersAt head bytes i)
  none_before i h d =
      let p = sym d.2 ∙ ap (λ xs. slice_get xs i) s.rest_is ∙ before_end s.done (whole_lines rest) i h in
      let q = sym d.3 ∙ ap (λ xs. slice_get xs i) s.due_is ∙ before_end s.done (whole_lines due) i h in
      d.4 (let r : Some d.0 ≡ Some d.1 = p ∙ sym q in cc)

  pub same_differs : (expected line : List ℕ) (dues rests : List (List ℕ)) → whole_lines due ≡ expected ∷ dues → whole_lines rest ≡ line ∷ rests → ¬ (line ≡ expected)
      → IsDifferent head bytes (Head (lines + 1))
  same_differs expected line dues rests e f differs =
      let here = ap (λ xs. slice_get xs (length s.done)) (s.rest_is ∙ ap (λ (xs : List (List ℕ)). s.done ++ xs) f) ∙ at_end s.done line rests in
      let there = ap (λ xs. slice_get xs (length s.done)) (s.due_is ∙ ap (λ (xs : List (List ℕ)). s.done ++ xs) e) ∙ at_end s.done expected dues in
      (length s.done, record { holds = (line, expected, here, there, differs); least = none_before }, ap (λ k. k + 1) (sym s.number))

-- ---- the lines behind it

pub allowed_read : (l : Layout) (s : Reading) (p : Place) (line : List ℕ) (t : Reading) → IsAllowed l s p line t → t.read ≡ s.read + (length line + 1)
allowed_read l s class_or_end line t (inl a) = ap (λ r. r.read) a.2
allowed_read l s class_or_end line t (inr a) = ap (λ r. r.read) a.1
allowed_read l s (heights_of choice) line t a = by_stars l.form.stars a.1
  where
    by_stars : (stars : Bool) → t ≡ cond stars (goes_on s (length line + 1) (star_of choice)) (ends_block s (length line + 1) choice) → t.read ≡ s.read + (length line + 1)
    by_stars true e = ap (λ r. r.read) e
    by_stars false e = ap (λ r. r.read) e
allowed_read l s (star_of choice) line t a = ap (λ r. r.read) a.4
allowed_read l s (simplices_of choice zero) line t a = absurd a
allowed_read l s (simplices_of choice (suc zero)) line t a = ap (λ r. r.read) a.1
allowed_read l s (simplices_of choice (suc (suc n))) line t a = ap (λ r. r.read) a.1
allowed_read l s nothing line t a = absurd a

reads_more : (l : Layout) (s : Reading) (good : List (List ℕ)) (r : Reading) (line : List ℕ) (t : Reading) → Reads l s good r → IsAllowed l r r.place line t → Reads l s (good ++ line ∷ []) t
reads_more l s [] r line t e a = (t, subst (λ (q : Reading). IsAllowed l q q.place line t) (sym e) a, refl)
reads_more l s (x ∷ good) r line t h a = (h.0, h.1, reads_more l h.0 good r line t h.2 a)

-- so many lines were read
pub record ReadSoFar (l : Layout) (head before : ℕ) (bytes rest : List ℕ) (lines : ℕ) (r : Reader) : Type 0 where
  pub good : List (List ℕ)
  pub are : whole_lines bytes ≡ good ++ whole_lines rest
  pub reads : Reads l (behind head) good (reading_of r)
  pub number : lines ≡ before + length good
  pub room : lines + length rest ≤ before + length bytes
  pub bytes_room : r.read + length rest ≤ head + length bytes
  pub blocks : r.count + before ≤ lines

pub read_start : (l : Layout) (head before : ℕ) (bytes : List ℕ) (r : Reader) → reading_of r ≡ behind head → ReadSoFar l head before bytes bytes before r
read_start l head before bytes r e = record {
  good = [];
  are = refl;
  reads = sym e;
  number = omega arith;
  room = omega arith;
  bytes_room = (let q : r.read ≡ head = ap (λ s. s.read) e in omega arith);
  blocks = (let q : r.count ≡ 0 = ap (λ s. s.kept.blocks) e in omega arith);
}

module _ (l : Layout) (head before : ℕ) (bytes rest : List ℕ) (lines : ℕ) (r : Reader) (s : ReadSoFar l head before bytes rest lines r) where
  pub read_more : (q : Reader) (line more : List ℕ) → whole_lines rest ≡ line ∷ whole_lines more → length rest ≡ length line + 1 + length more
      → IsAllowed l (reading_of r) (reading_of r).place line (reading_of q) → q.count ≤ r.count + 1 → ReadSoFar l head before bytes more (lines + 1) q
  read_more q line more e f a c =
      let size : q.read ≡ r.read + (length line + 1) = allowed_read l (reading_of r) (reading_of r).place line (reading_of q) a in
      record {
        good = s.good ++ line ∷ [];
        are = s.are ∙ one_more s.good line _ _ e;
        reads = reads_more l (behind head) s.good (reading_of r) line (reading_of q) s.reads a;
        number = omega (arith, length_more s.good line (length s.good) refl, s.number);
        room = omega (arith, s.room);
        bytes_room = omega (arith, s.bytes_room);
        blocks = omega (arith, s.blocks);
      }

  pub read_all : whole_lines rest ≡ [] → IsReadTo l head bytes r
  read_all e = subst (λ (xs : List (List ℕ)). Reads l (behind head) xs (reading_of r)) (sym (s.are ∙ ap (λ (xs : List (List ℕ)). s.good ++ xs) e ∙ append-nil s.good)) s.reads

  pub read_refused : (line more : List ℕ) → whole_lines rest ≡ line ∷ whole_lines more → ((t : Reading) → ¬ (IsAllowed l (reading_of r) (reading_of r).place line t))
      → IsFirstRefused l head bytes before (lines + 1)
  read_refused line more e refused = record {
    good = s.good;
    line = line;
    more = whole_lines more;
    at = reading_of r;
    lines = s.are ∙ ap (λ (xs : List (List ℕ)). s.good ++ xs) e;
    reads = s.reads;
    refused = refused;
    number_is = ap (λ k. k + 1) s.number;
  }

-- ---- the answers

module _ (l : Layout) (head bytes : List ℕ) (h : head ≡ head_text l.pair l.form) where
  pub kept_nothing : IsShorter head bytes → IsKeptOf l bytes nothing_kept
  kept_nothing s = inl (s.0, s.1, ap whole_lines (sym h) ∙ s.2, refl)

  pub kept_all : (lines : ℕ) (rest : List ℕ) (r : Reader) → IsBehind head bytes lines rest → IsReadTo l (length head) rest r → IsKeptOf l bytes (reading_of r).kept
  kept_all lines rest r b read =
      inr (
        whole_lines rest,
        reading_of r,
        b.are ∙ ap (λ xs. whole_lines xs ++ whole_lines rest) h,
        subst (λ n. Reads l (behind n) (whole_lines rest) (reading_of r)) (ap length h) read,
        refl,
      )

  pub head_cause : (e : EarlierFault) → IsDifferent head bytes e → HasCause l bytes e
  head_cause (Head line) d = subst (λ xs. (i : ℕ) × IsLeast (DiffersAt xs bytes) i × (line ≡ i + 1)) h d
  head_cause (Body line) d = absurd d
  head_cause Memory d = absurd d

  pub body_cause : (lines : ℕ) (rest : List ℕ) (e : EarlierFault) → IsBehind head bytes lines rest → IsRefusedAt l (length head) rest lines e → HasCause l bytes e
  body_cause lines rest (Head line) b r = absurd r
  body_cause lines rest (Body line) b r = record {
    good = r.good;
    line = r.line;
    rest = r.more;
    at = r.at;
    lines = b.are ∙ ap (λ xs. whole_lines xs ++ whole_lines rest) h ∙ ap (λ (xs : List (List ℕ)). head_lines l ++ xs) r.lines ∙ sym (append_assoc (head_lines l) r.good (r.line ∷ r.more));
    reads = subst (λ n. Reads l (behind n) r.good r.at) (ap length h) r.reads;
    refused = r.refused;
    number_is = (let n : lines ≡ length (head_lines l) = b.number ∙ ap (λ xs. length (whole_lines xs)) h in r.number_is ∙ ap (λ k. k + length r.good + 1) n);
  }
  body_cause lines rest Memory b r = tt
