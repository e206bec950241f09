-- The fault of one line is the fault of a text, where the lines before it are good.
use Rattle.std.proofs.Common.{◌≡◌, ℕ, ◌+◌, ◌-◌, ◌<◌, ◌≤◌, zero, suc, List, [], ◌∷◌, ◌++◌, length, refl, sym, ap, ◌∙◌, subst, append_assoc, Result, Ok, Err, IfOk, All, arith}
use Rattle.std.specs.List.{AllZip}
use Rattle.ntfe_nums.specs.Vectors.{Vector}
use Rattle.ntfe_model.specs.Pairs.{IsSmall, IsBoundedList}
use Rattle.ntfe_model.specs.PairText.{Line, Due, four_numbers, IsCountLine, IsVectorLine, IsBegun, AreListLines, IsDueInList, IsFirstWrong}
use Rattle.pair_text.specs.declared.fault.TextFault.{TextFault}
use Rattle.pair_text.specs.declared.fault.TextFault.TheVariants.{BadLine, BadNumber, TooLarge, Count, Short, Long, Memory}
use Rattle.pair_text.specs.Faults.{IsCauseIn, IsFaultOf, IsDueInVectors}

pub line_cause : (N : List Line → Due → Type 0) (good : List Line) (line : Line) (later all : List Line) (due : Due) (fault : TextFault)
    → all ≡ good ++ line ∷ later → N good due → IsFaultOf due line fault → IsCauseIn N all fault
line_cause N good line later all due (BadLine n) e h w = record { good = good; line = line; later = later; due = due; lines_are = e; next = h; wrong = w.1; number_is = w.0 }
line_cause N good line later all due (BadNumber n) e h w = record { good = good; line = line; later = later; due = due; lines_are = e; next = h; wrong = w.1; number_is = w.0 }
line_cause N good line later all due (TooLarge n) e h w = record { good = good; line = line; later = later; due = due; lines_are = e; next = h; wrong = w.1; number_is = w.0 }
line_cause N good line later all due (Count n) e h w = record { good = good; line = line; later = later; due = due; lines_are = e; next = h; wrong = w.1; number_is = w.0 }
line_cause N good line later all due (Long n) e h w = record { good = good; line = line; later = later; due = due; lines_are = e; next = h; wrong = w.1; number_is = w.0 }
line_cause N good line later all due Short e h w = absurd w
line_cause N good line later all due Memory e h w = absurd w

-- what is due behind good lines is due behind these and the same good lines
abbrev pub Leads : (List Line → Due → Type 0) → (List Line → Due → Type 0) → List Line → Type 0
Leads N M front = (good : List Line) (due : Due) → N good due → M (front ++ good) due

wrong_behind : (N M : List Line → Due → Type 0) (W : Due → List (List ℕ) → Type 0) (front rest all : List Line) (number : ℕ) → all ≡ front ++ rest → Leads N M front
    → IsFirstWrong N W rest number → IsFirstWrong M W all number
wrong_behind N M W front rest all number e lead r = record {
  good = front ++ r.good;
  line = r.line;
  later = r.later;
  due = r.due;
  lines_are = e ∙ ap (λ (x : List Line). front ++ x) r.lines_are ∙ sym (append_assoc front r.good (r.line ∷ r.later));
  next = lead r.good r.due r.next;
  wrong = r.wrong;
  number_is = r.number_is;
}

-- a fault behind lines that were read is the fault of all
pub cause_behind : (N M : List Line → Due → Type 0) (front rest all : List Line) (fault : TextFault) → all ≡ front ++ rest → Leads N M front → IsCauseIn N rest fault → IsCauseIn M all fault
cause_behind N M front rest all (BadLine n) e lead r = wrong_behind N M _ front rest all n e lead r
cause_behind N M front rest all (BadNumber n) e lead r = wrong_behind N M _ front rest all n e lead r
cause_behind N M front rest all (TooLarge n) e lead r = wrong_behind N M _ front rest all n e lead r
cause_behind N M front rest all (Count n) e lead r = wrong_behind N M _ front rest all n e lead r
cause_behind N M front rest all (Long n) e lead r = wrong_behind N M _ front rest all n e lead r
cause_behind N M front rest all Short e lead r = record { due = r.due; next = rw e (lead rest r.due r.next); more = r.more }
cause_behind N M front rest all Memory e lead r = tt

-- ---- the lines of a list

pub list_lines : (word : List ℕ) (head : Line) (entries : List Line) (vs : List Vector) (count : ℕ) → IsCountLine word count head → 5 ≤ count → count ≤ 64 → AllZip IsVectorLine entries vs
    → length vs ≡ count → AreListLines word vs (head ∷ entries)
list_lines word head entries vs count h low high are e =
    let n : count ≡ length vs + 0 = omega arith in
    record { head = head; entries = entries; lines_are = refl; count = subst (λ (k : ℕ). IsCountLine word k head) n h; at_least = omega arith; at_most = omega arith; vectors = are }

-- behind the count line of a list a line of four numbers is due, until there are as many as announced
pub vectors_lead : (word : List ℕ) (head : Line) (count : ℕ) → IsCountLine word count head → 5 ≤ count → count ≤ 64 → Leads (IsDueInVectors count) (IsDueInList word) (head ∷ [])
vectors_lead word head count h low high good due r =
    let vs = r.vectors in
    let left = count - length vs in
    let fewer : length vs < count = r.fewer in
    let n : count ≡ length vs + left = omega arith in
    let begun : IsBegun word vs left (head ∷ good) =
    record { head = head; entries = good; lines_are = refl; count = subst (λ (k : ℕ). IsCountLine word k head) n h; at_least = omega arith; at_most = omega arith; vectors = r.are } in
    let next : IsDueInList word (head ∷ good) four_numbers = (vs, left, omega arith, begun) in
    subst (λ (d : Due). IsDueInList word (head ∷ good) d) (sym r.is) next

all_small : (entries : List Line) (vs : List Vector) → AllZip IsVectorLine entries vs → All IsSmall vs
all_small [] [] h k d l = absurd (omega arith)
all_small [] (v ∷ vs) h k d l = absurd h
all_small (x ∷ xs) [] h k d l = absurd h
all_small (x ∷ xs) (v ∷ vs) h zero d l = h.0.small
all_small (x ∷ xs) (v ∷ vs) h (suc k) d l = all_small xs vs h.1 k d (omega arith)

-- the vectors of a list are bounded
pub list_bounded : (word : List ℕ) (vs : List Vector) (these : List Line) → AreListLines word vs these → IsBoundedList vs
list_bounded word vs these b = record { at_least = omega (arith, b.at_least); at_most = omega (arith, b.at_most); small = all_small b.entries vs b.vectors }

-- ---- clauses

pub both_ok : {X E : Type 0} (r : Result X E) (P Q R : X → Type 0) → ((x : X) → P x → Q x → R x) → IfOk r P → IfOk r Q → IfOk r R
both_ok (Ok x) P Q R f p q = f x p q
both_ok (Err e) P Q R f p q = tt
