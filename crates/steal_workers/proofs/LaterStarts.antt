-- A listing that goes on from a later start: a new board that begins after a class may treat what it finds as found from the listing's own
-- start, since the solver is infeasible on no head of a class.
use Rattle.std.proofs.Common.{◌≡◌, ℕ, ◌<◌, ◌≤◌, inl, inr, Bool, true, false, refl, sym, ap, ◌∙◌, subst, arith, pos, ◌<ℤ◌, List, [], ◌∷◌, length, take, get_or, Some}
use Rattle.std.specs.Prelude.{All, Option, slice_index}
use Rattle.std.specs.Bool.{Decides, nat_eq}
use Rattle.std.specs.Cmp.Lexicographic.{pointwise}
use Rattle.std.proofs.lemmas.Bool.Decides.{not_from_Decides, Decides-eqb}
use Rattle.std.proofs.lemmas.List.{length-take, get_or-take}
use Rattle.std.proofs.lemmas.List.Elements.{All-append, All-cons, All-nil, All-weaker}
use Rattle.std.proofs.lemmas.Slice.Eq.{slice_eq-Decides}
use Rattle.ntfe_model.specs.Shapes.{Shape, IsShape}
use Rattle.ntfe_model.specs.Charts.{patch_at}
use Rattle.ntfe_model.specs.Words.{IsItem, HasItem}
use Rattle.ntfe_model.specs.Choices.{IsChoice, IsExtendable, IsFoldOf, fold_value}
use Rattle.ntfe_model.specs.Keys.{item_limit, last_number, stem, IsKey, AllItemsExist, BeginsWith, IsStart, IsAfter, IsRefutedAt, IsLive}
use Rattle.ntfe_model.specs.declared.triangulation.Triangulation.{Triangulation}
use Rattle.ntfe_model.specs.declared.nogood.Fold.{Fold}
use Rattle.ntfe_model.proofs.FoldPlanes.{above_gives_folds}
use Rattle.node_probe.specs.Lifted.{LiftsAll}
use Rattle.node_probe.proofs.Heads.{head_all}
use Rattle.node_probe.proofs.Lifted.{lifted_not_infeasible}
use Rattle.choice_board.specs.Starts.{new_board}
use Rattle.choice_board.specs.States.{State, IsSound}
use Rattle.choice_board.specs.declared.outcome.Outcome.{Outcome}
use Rattle.choice_board.specs.declared.outcome.Outcome.TheVariants as outcome
use Rattle.choice_board.specs.declared.record.Found.{Found}
use Rattle.choice_board.specs.declared.record.Found.TheVariants.{Class, Wide, Far}
use Rattle.choice_board.proofs.PlaceLemmas.{key_parts}
use Rattle.steal_workers.specs.Listings.{Listed, Progress, IsNextOutcome}
use Rattle.steal_workers.specs.Blocks.{MovesTo}
use Rattle.steal_workers.specs.Shared.{IsKeyed}
use Rattle.steal_workers.specs.Boards.{IsLiveRecord, IsUnderWay, IsAbreast, IsStartOrClass, IsPlace}
use Rattle.steal_workers.proofs.HandedOut.{new_abreast}
use Rattle.steal_workers.proofs.HeightsExtend.{head_over}
use Rattle.ntfe_model.proofs.Orders.{after_chain}

-- ---- the heads of a class

module _ (g : Shape) (s : IsShape g) (c : List ℕ) (e : IsExtendable g c) (head : List ℕ) (begins : BeginsWith head c) where
  head_within : length head ≤ length g.faces
  head_within = let m = sym (length-take (length head) c) ∙ ap length begins in let f = e.items.faces in omega (arith, m, f)

  same_number : (f : ℕ) → f < length head → slice_index c f ≡ slice_index head f
  same_number f l = sym (get_or-take (length head) c f 0 l) ∙ ap (λ ns. slice_index ns f) begins

  head_items : AllItemsExist g head
  head_items f l = subst (HasItem g f) (same_number f l) (e.items.items f (let m = head_within in omega (arith, l, m)))

  -- the heights that extend the class are positive on the folds of its heads
  head_not_refuted : (width : ℕ) → ¬ (IsRefutedAt g width head)
  head_not_refuted width (rs, ms, folds, infeasible) =
      lifted_not_infeasible (length g.points) (Some width) rs ms (head_over g s head head_within rs folds) (e.heights, e.extends.heights, lifts) infeasible
    where
      one : (f : ℕ) → f < length head → (x : Triangulation) → IsItem (patch_at g f) (get_or head f 0) x → (r : Fold) → IsFoldOf (patch_at g f) x r → pos 0 <ℤ fold_value e.heights r
      one f l x i r k =
          let item : IsItem (patch_at g f) (slice_index c f) x = subst (λ n. IsItem (patch_at g f) n x) (sym (same_number f l)) i in
          above_gives_folds (patch_at g f) e.heights x i.is.fine (e.extends.lifts f (let m = head_within in omega (arith, l, m)) x item) r k

      lifts : LiftsAll e.heights rs
      lifts = head_all g (λ r. pos 0 <ℤ fold_value e.heights r) head rs folds one

-- ---- what may be come to

-- what may be come to from a class after the start may be come to from the start
pub live_later : (g : Shape) → IsShape g → (start : Option (List ℕ)) (width : ℕ) (c : List ℕ) → IsExtendable g c → IsAfter start c → (key : List ℕ) → IsLive g (Some c) width key → IsLive g start width key
live_later g s start width c e after key live = record {
  after = after_chain start c key after live.after;
  open_stems = λ k p l none. by k p l (pointwise nat_eq (front k) (take k key)) (decides k);
}
  where
    -- as many numbers of the class as the key's first k
    front : ℕ → List ℕ
    front k = take (length (take k key)) c

    decides : (k : ℕ) → Decides (pointwise nat_eq (front k) (take k key)) (front k ≡ take k key)
    decides k = slice_eq-Decides Decides-eqb (front k) (take k key) (pointwise nat_eq (front k) (take k key)) refl

    by : (k : ℕ) → 0 < k → k < length key → (b : Bool) → Decides b (front k ≡ take k key) → AllItemsExist g (take k key) × ¬ (IsRefutedAt g width (take k key))
    by k p l true d = let begins = d.0 refl in (head_items g s c e (take k key) begins, head_not_refuted g s c e (take k key) begins width)
    by k p l false d = live.open_stems k p l (not_from_Decides false d refl)

module _ (l : Listed) (last : Option (List ℕ)) (from : IsStartOrClass l last) (s : IsShape l.geometry) where
  live_from : (key : List ℕ) → IsLive l.geometry last l.width key → IsLive l.geometry l.start l.width key
  live_from key live = by from
    where
      by : IsStartOrClass l last → IsLive l.geometry l.start l.width key
      by (inl e) = subst (λ (start : Option (List ℕ)). IsLive l.geometry start l.width key) e live
      by (inr (c, e, extendable, after)) =
          live_later l.geometry s l.start l.width c extendable after key (subst (λ (start : Option (List ℕ)). IsLive l.geometry start l.width key) e live)

  record_from : (key : List ℕ) (found : Found) → IsLiveRecord (record l { start = last }) key found → IsLiveRecord l key found
  record_from key (Class choice w) live = tt
  record_from key (Wide choice step number) live = (live_from key live.0, live.1)
  record_from key Far live = live_from key live

  -- a board that is under way from there is under way from the start
  pub start_or_class : (board : State) → IsUnderWay (record l { start = last }) board → IsUnderWay l board
  start_or_class board u = record {
    geometry = u.geometry;
    keys = All-weaker (IsLive l.geometry last l.width) (IsLive l.geometry l.start l.width) live_from board.open_keys u.keys;
    records = All-weaker (λ r. IsLiveRecord (record l { start = last }) r.key r.found) (λ r. IsLiveRecord l r.key r.found) (λ r. record_from r.key r.found) board.recorded u.records;
  }

-- ---- where a new board may begin

-- a choice within reach may be begun after
pub key_is_start : (g : Shape) (c : List ℕ) → IsChoice g c → IsKey g c → last_number c < item_limit g → IsStart g (Some c)
key_is_start g c items key near = (
  items.faces,
  subst (All (λ n. n < item_limit g)) (sym (key_parts c key.some))
      (All-append (λ n. n < item_limit g) (stem c) (last_number c ∷ []) key.others (All-cons (λ n. n < item_limit g) (last_number c) [] near (All-nil (λ n. n < item_limit g)))),
)

-- a new board after the class last written, or after the start where there is none yet, goes on with the listing
pub new_abreast_later : (p : Progress) (s : State) → IsStartOrClass p.listed p.last → IsSound s → s ≡ new_board p.listed.geometry p.last → IsAbreast p s
new_abreast_later p s from sound e =
    let a = new_abreast (record p.listed { start = p.last }) s sound e in
    let shape : IsShape p.listed.geometry = subst IsShape a.under_way.geometry sound.shape in
    record { last = a.last; under_way = start_or_class p.listed p.last from shape s a.under_way; running = a.running; sound = sound }

-- the class that comes next may be begun after
pub moved_place : (p q : Progress) (o : Outcome) → IsPlace p.listed p.last → IsNextOutcome p.listed p.last o → IsKeyed p.listed.geometry o → MovesTo p q o → IsPlace q.listed q.last
moved_place p q (outcome.Class choice w) place next key e =
    subst (λ (x : Progress). IsPlace x.listed x.last) (sym e) record {
      from = inr (choice, refl, record { items = next.0.0; heights = w; extends = next.0.2 }, after place.from);
      near = key_is_start p.listed.geometry choice next.0.0 key next.0.1;
    }
  where
    after : IsStartOrClass p.listed p.last → IsAfter p.listed.start choice
    after (inl same) = subst (λ (start : Option (List ℕ)). IsAfter start choice) same next.1.above
    after (inr (c, same, extendable, above)) = after_chain p.listed.start c choice above (subst (λ (last : Option (List ℕ)). IsAfter last choice) same next.1.above)
moved_place p q (outcome.Wide choice step number) place next key e = absurd e
moved_place p q (outcome.Far face) place next key e = absurd e
