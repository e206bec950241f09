-- The first segments of a two-face, and one more.
use Rattle.std.proofs.Common.{◌≡◌, ℕ, ◌+◌, ◌*◌, ◌/◌, ◌<◌, ◌≤◌, inr, ⊎_elim, refl, sym, ap, ◌∙◌, subst, arith, List, [], ◌∷◌, ◌++◌, length, map, get_or, Bool, true, false, cond, Option, Some, None, append_assoc}
use Rattle.std.specs.Prelude.{◌==◌, MatchOption, IfNone}
use Rattle.std.proofs.lemmas.Bool.{cases_lt}
use Rattle.std.proofs.lemmas.List.{get_or-map, get_or_append_left, get_or_past, length-map, length_push, map-append}
use Rattle.std.proofs.Math.Seq.{get_or-append_seam}
use Rattle.ntfe_model.specs.Charts.{Patch}
use Rattle.ntfe_model.specs.Words.{HasItemAt}
use Rattle.ntfe_model.specs.declared.triangulation.Triangulation.{Triangulation}
use Rattle.ntfe_model.proofs.Items.{lesser_items}
use Rattle.shared_stream.specs.Segments.{Stretch, IsSegmentOf, HasSegment, item_in}
use Rattle.shared_stream.specs.Hands.{IsHanded}
use Rattle.shared_stream.specs.Held.{FirstStretches, AreFirst, GoesOn, HasOneMore, no_stretch, held_item, stretch_of}
use Rattle.shared_stream.specs.declared.held.Held.{Held}
use Rattle.shared_stream.specs.declared.handed.Handed.{Handed}
use Rattle.shared_stream.specs.declared.handed.Handed.TheVariants.{Past}

-- ---- an item of a segment that is held

pub no_item : (number : ℕ) → item_in no_stretch number ≡ None
no_item number = none (number / 256 == 0)
  where
    none_of : Option Triangulation
    none_of = None

    none : (b : Bool) → cond b none_of none_of ≡ none_of
    none true = refl
    none false = refl

pub held_goes_on : (old new : FirstStretches) (number : ℕ) (x : Triangulation) → GoesOn old.stretches new.stretches → held_item old number ≡ Some x → held_item new number ≡ Some x
held_goes_on old new number x m e = ⊎_elim within past (cases_lt (number / 256) (length old.stretches))
  where
    within : number / 256 < length old.stretches → held_item new number ≡ Some x
    within l = ap (λ ss. item_in (get_or ss (number / 256) no_stretch) number) m.is ∙ ap (λ s. item_in s number) (get_or_append_left old.stretches m.more no_stretch (number / 256) l) ∙ e

    past : length old.stretches ≤ number / 256 → held_item new number ≡ Some x
    past l = let f : item_in no_stretch number ≡ Some x = ap (λ s. item_in s number) (sym (get_or_past old.stretches (number / 256) no_stretch l)) ∙ e in let n = no_item number in absurd cc

-- the segment at a place
pub at_place : (h : Patch) (hs : List Held) (k : ℕ) (x : Held) (s : Stretch) → AreFirst h (map stretch_of hs) → k < length hs → x ≡ get_or hs k x → s ≡ stretch_of x
    → IsSegmentOf h k s × (get_or (map stretch_of hs) k no_stretch ≡ s)
at_place h hs k x s a l e f =
    let at : get_or (map stretch_of hs) k no_stretch ≡ s = get_or-map stretch_of hs k x no_stretch l ∙ ap stretch_of (sym e) ∙ sym f in
    let P : Stretch → Type 0 = λ t. IsSegmentOf h k t in
    let many : k < length (map stretch_of hs) = (let m = length-map hs stretch_of in omega (arith, l, m)) in
    (subst P at (a.each k many), at)

pub none_or : {X : Type 0} (o : Option X) (A P : Type 0) (Q : X → Type 0) → MatchOption o A Q → (A → P) → IfNone o P
none_or None A P Q m f = f m
none_or (Some x) A P Q m f = tt

pub some_or : {X : Type 0} (o : Option X) (A : Type 0) (Q R : X → Type 0) → MatchOption o A Q → ((x : X) → Q x → R x) → MatchOption o (Unit {0}) R
some_or None A Q R m f = tt
some_or (Some x) A Q R m f = f x m

-- ---- one more segment

-- there is what there was, and maybe more
pub record IsFetching (before now : FirstStretches) : Type 0 where
  pub patch : now.patch ≡ before.patch
  pub kept : GoesOn before.stretches now.stretches

pub fetching_more : (before now next : FirstStretches) → IsFetching before now → next.patch ≡ now.patch → HasOneMore now.stretches next.stretches → IsFetching before next
fetching_more before now next f p m = record {
  patch = p ∙ f.patch;
  kept = record {
    more = f.kept.more ++ m.stretch ∷ [];
    is = m.is ∙ ap (λ vs. vs ++ m.stretch ∷ []) f.kept.is ∙ append_assoc before.stretches f.kept.more (m.stretch ∷ []);
  };
}

pub fetching_same : (before now next : FirstStretches) → IsFetching before now → next.patch ≡ now.patch → next.stretches ≡ now.stretches → IsFetching before next
fetching_same before now next f p m = record { patch = p ∙ f.patch; kept = record { more = f.kept.more; is = m ∙ f.kept.is } }

pub more_length : (xs ys : List Stretch) → HasOneMore xs ys → length ys ≡ length xs + 1
more_length xs ys m = ap length m.is ∙ length_push xs m.stretch

first_more : (h : Patch) (ss : List Stretch) (s : Stretch) → AreFirst h ss → IsSegmentOf h (length ss) s → AreFirst h (ss ++ s ∷ [])
first_more h ss s a i = record { each = λ k l. ⊎_elim (old k) (λ m. last k (let e = length_push ss s in omega (arith, l, m, e))) (cases_lt k (length ss)) }
  where
    old : (k : ℕ) → k < length ss → IsSegmentOf h k (get_or (ss ++ s ∷ []) k no_stretch)
    old k l = let P : Stretch → Type 0 = λ t. IsSegmentOf h k t in subst P (sym (get_or_append_left ss (s ∷ []) no_stretch k l)) (a.each k l)

    last : (k : ℕ) → length ss ≡ k → IsSegmentOf h k (get_or (ss ++ s ∷ []) k no_stretch)
    last k e =
        let P : Stretch → Type 0 = λ t. IsSegmentOf h (length ss) t in
        let Q : ℕ → Type 0 = λ j. IsSegmentOf h j (get_or (ss ++ s ∷ []) j no_stretch) in
        subst Q e (subst P (sym (get_or-append_seam ss s [] no_stretch)) i)

pub first_pushed : (h : Patch) (hs hs1 hs2 : List Held) (x : Held) (m : ℕ) → AreFirst h (map stretch_of hs) → hs1 ≡ hs → hs2 ≡ hs1 ++ x ∷ [] → m ≡ length hs1 → IsSegmentOf h m (stretch_of x) → AreFirst h (map stretch_of hs2)
first_pushed h hs hs1 hs2 x m a e f n i =
    let P : List Stretch → Type 0 = λ ss. AreFirst h ss in
    let Q : ℕ → Type 0 = λ k. IsSegmentOf h k (stretch_of x) in
    let count : m ≡ length (map stretch_of hs1) = n ∙ sym (length-map hs1 stretch_of) in
    subst P (sym (ap (map stretch_of) f ∙ map-append stretch_of hs1 (x ∷ []))) (first_more h (map stretch_of hs1) (stretch_of x) (subst P (ap (map stretch_of) (sym e)) a) (subst Q count i))

pub one_more : (hs hs1 hs2 : List Held) (x : Held) (ss : List Stretch) → map stretch_of hs ≡ ss → hs1 ≡ hs → hs2 ≡ hs1 ++ x ∷ [] → HasOneMore ss (map stretch_of hs2)
one_more hs hs1 hs2 x ss e f g = record {
  stretch = stretch_of x;
  is = ap (map stretch_of) (g ∙ ap (λ l. l ++ x ∷ []) f) ∙ map-append stretch_of hs (x ∷ []) ∙ ap (λ l. l ++ stretch_of x ∷ []) e;
}

-- the two-face has no segment of this number
pub not_there : (h : Patch) (m : ℕ) (o : Handed) (n : ℕ) → IsHanded h m o → o ≡ Past n → ¬ (HasSegment h m)
not_there h m o n i e has =
    let P : Handed → Type 0 = λ q. IsHanded h m q in
    let p : IsHanded h m (Past n) = subst P e i in
    let l : m < n = (p.0 m).0 has in
    absurd (omega (arith, l, p.1))

-- an item stands in a segment that the two-face has
pub no_item_behind : (h : Patch) (n number : ℕ) → n ≤ number / 256 → ¬ (HasSegment h n) → ¬ (HasItemAt h number)
no_item_behind h n number l none has = none (inr (lesser_items h number (256 * n) has (omega (arith, l))))
