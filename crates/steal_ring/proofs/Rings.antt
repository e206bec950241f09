-- How a ring is linked seat by seat, and closed from its last seat on.
use Rattle.std.proofs.Common.{◌≡◌, ℕ, zero, suc, ◌+◌, ◌*◌, ◌≤◌, ◌^◌, ◌==◌, false, List, [], ◌∷◌, ◌++◌, length, map, All, refl, sym, ap, ◌∙◌, subst, append-nil, arith, length-append, ne_eqb}
use Rattle.std.specs.List.{range_with_len}
use Rattle.std.proofs.lemmas.List.{same_from_push, map-append, length_push}
use Rattle.std.proofs.lemmas.List.Elements.{All-push, All-nil, All-weaker}
use Rattle.std.proofs.lemmas.Grind.{flat_map-append}
use Rattle.steal_ring.specs.Conservation.{Numbers, weigh}
use Rattle.steal_ring.specs.Seats.{Deque, SeatView, got, rotated, IsRing, all_put, all_got}
use Rattle.steal_ring.proofs.Steps.{weigh_append, ones}

-- the seats so far, whose last victim is to be to the deque `own`, while the first seat's own deque is `first`
pub record Linking (seats : List SeatView) (first own : Deque) (number : ℕ) : Type 0 where
  pub count : length seats + 1 ≡ number
  pub linked : map (λ s. s.own) seats ++ own ∷ [] ≡ first ∷ map (λ s. s.right.deque) seats
  pub many : All (λ s. s.alone ≡ false) seats
  pub numbers : map (λ s. s.number) seats ≡ range_with_len 1 (length seats)
  pub fresh : All (λ s. (s.put ≡ []) × (got s ≡ [])) seats

pub begins_link : (first : Deque) → Linking [] first first 1
begins_link first = record { count = refl; linked = refl; many = All-nil _; numbers = refl; fresh = All-nil _ }

range_more : (a n j : ℕ) → a + n ≡ j → range_with_len a (suc n) ≡ range_with_len a n ++ j ∷ []
range_more a zero j e = ap (λ (k : ℕ). k ∷ []) (omega arith)
range_more a (suc n) j e = ap (λ (l : List ℕ). a ∷ l) (range_more (a + 1) n j (omega arith))

pub links : (seats seats' : List SeatView) (first own : Deque) (number : ℕ) (s : SeatView) → Linking seats first own number → s.own ≡ own → s.alone ≡ false → s.number ≡ number → (s.put ≡ []) × (got s ≡ []) → seats' ≡ seats ++ s ∷ []
    → Linking seats' first s.right.deque (number + 1)
links seats seats' first own number s k at alone numbered empty e = record {
  count = omega (arith, ap length e, length_push seats s, k.count);
  linked = ap (λ (l : List SeatView). map (λ s. s.own) l ++ s.right.deque ∷ []) e ∙ ap (λ (l : List Deque). l ++ s.right.deque ∷ []) (map-append (λ s. s.own) seats (s ∷ []) ∙ ap (λ (o : Deque). map (λ s. s.own) seats ++ o ∷ []) at ∙ k.linked)
      ∙ sym (ap (λ (l : List SeatView). first ∷ map (λ s. s.right.deque) l) e ∙ ap (λ (l : List Deque). first ∷ l) (map-append (λ s. s.right.deque) seats (s ∷ [])));
  many = subst (All (λ s. s.alone ≡ false)) (sym e) (All-push (λ s. s.alone ≡ false) seats s k.many alone);
  numbers =
      let longer : length seats' ≡ suc (length seats) = omega (arith, ap length e, length_push seats s) in
      ap (map (λ s. s.number)) e ∙ map-append (λ s. s.number) seats (s ∷ []) ∙ ap (λ (l : List ℕ). l ++ s.number ∷ []) k.numbers
      ∙ sym (ap (λ (n : ℕ). range_with_len 1 n) longer ∙ range_more 1 (length seats) s.number (omega (arith, numbered, k.count)));
  fresh = subst (All (λ s. (s.put ≡ []) × (got s ≡ []))) (sym e) (All-push (λ s. (s.put ≡ []) × (got s ≡ [])) seats s k.fresh empty);
}

none_alone : (seats : List SeatView) (n : ℕ) → n ≡ length seats + 1 → All (λ s. s.alone ≡ false) seats → All (λ s. s.alone ≡ (n == 1)) seats
none_alone [] n e h = All-nil (λ s. s.alone ≡ (n == 1))
none_alone (x ∷ xs) n e h = All-weaker (λ s. s.alone ≡ false) (λ s. s.alone ≡ (n == 1)) (λ s k. k ∙ sym (ne_eqb n 1 (omega arith))) (x ∷ xs) h

-- the last seat closes the ring
pub ends_link : (seats seats' : List SeatView) (first own : Deque) (number : ℕ) (s : SeatView) → Linking seats first own number → number ≤ 16 → s.own ≡ own → s.right.deque ≡ first → s.alone ≡ (number == 1) → s.number ≡ number → (s.put ≡ []) × (got s ≡ []) → seats' ≡ seats ++ s ∷ []
    → IsRing seats' × (map (λ s. s.number) seats' ≡ range_with_len 1 number) × All (λ s. (s.put ≡ []) × (got s ≡ [])) seats'
ends_link seats seats' first own number s k few at close alone numbered empty e =
    let long : length seats' ≡ number = omega (arith, ap length e, length_push seats s, k.count) in
    let longer : number ≡ suc (length seats) = omega (arith, k.count) in
    let owns : map (λ s. s.own) seats' ≡ first ∷ map (λ s. s.right.deque) seats =
    ap (map (λ s. s.own)) e ∙ map-append (λ s. s.own) seats (s ∷ []) ∙ ap (λ (o : Deque). map (λ s. s.own) seats ++ o ∷ []) at ∙ k.linked in
    let rights : map (λ s. s.right.deque) seats' ≡ map (λ s. s.right.deque) seats ++ first ∷ [] =
    ap (map (λ s. s.right.deque)) e ∙ map-append (λ s. s.right.deque) seats (s ∷ []) ∙ ap (λ (o : Deque). map (λ s. s.right.deque) seats ++ o ∷ []) close in (
      record {
        some = omega (arith, long, k.count);
        few = omega (arith, long);
        closed = rights ∙ sym (ap rotated owns);
        lone = subst (All (λ s. s.alone ≡ (length seats' == 1))) (sym e)
            (All-push (λ s. s.alone ≡ (length seats' == 1)) seats s (none_alone seats (length seats') (omega (arith, long, k.count)) k.many) (alone ∙ ap (λ (n : ℕ). n == 1) (sym long)));
      },
      (ap (map (λ s. s.number)) e ∙ map-append (λ s. s.number) seats (s ∷ []) ∙ ap (λ (l : List ℕ). l ++ s.number ∷ []) k.numbers
          ∙ sym (ap (λ (n : ℕ). range_with_len 1 n) longer ∙ range_more 1 (length seats) s.number (omega (arith, numbered, k.count)))),
      subst (All (λ s. (s.put ≡ []) × (got s ≡ []))) (sym e) (All-push (λ s. (s.put ≡ []) × (got s ≡ [])) seats s k.fresh empty),
    )

pub both_empty : {X : Type 0} (xs ys : List X) → xs ≡ [] → ys ≡ [] → xs ++ ys ≡ []
both_empty xs ys e d = ap (λ (l : List _). l ++ ys) e ∙ d

-- what is known while a ring is closed: `rest` are the seats that are still to come. The last deque that was met has the number `own`, and its keys are not drained yet.
-- Its owner put and popped what is said. The victim `of`, through which `stolen` went, is the last seat's, to the first seat's deque. `keys` were drained so far
pub record Closing (all rest : List SeatView) (own : Deque) (put popped : List Numbers) (of : Deque) (stolen keys : List Numbers) (pushed taken : ℕ) : Type 0 where
  pub linked : map (λ s. s.own) rest ++ own ∷ [] ≡ of ∷ map (λ s. s.right.deque) rest
  pub balance : (h : Numbers → ℕ) → weigh h (all_put all) + weigh h (all_got rest) + weigh h popped + weigh h stolen ≡ weigh h (all_put rest) + weigh h put + weigh h (all_got all) + weigh h keys
  pub puts : pushed + length (all_put rest) ≡ length (all_put all)
  pub gets : taken + length (all_got rest) ≡ length (all_got all)
  pub put_fits : pushed + length rest * 2 ^ 59 ≤ 2 ^ 63
  pub got_fits : taken + length rest * 2 ^ 59 ≤ 2 ^ 63

all_put_snoc : (seats : List SeatView) (s : SeatView) → all_put (seats ++ s ∷ []) ≡ all_put seats ++ s.put
all_put_snoc seats s = flat_map-append (λ s. s.put) seats (s ∷ []) ∙ ap (λ (l : List Numbers). all_put seats ++ l) (append-nil s.put)

all_got_snoc : (seats : List SeatView) (s : SeatView) → all_got (seats ++ s ∷ []) ≡ all_got seats ++ got s
all_got_snoc seats s = flat_map-append got seats (s ∷ []) ∙ ap (λ (l : List Numbers). all_got seats ++ l) (append-nil (got s))

unrotate : {X : Type 0} (xs ys : List X) (y : X) → ys ++ y ∷ [] ≡ rotated xs → xs ≡ y ∷ ys
unrotate [] ys y e = absurd (omega (arith, ap length e, length_push ys y))
unrotate (x ∷ xs) ys y e = let p = same_from_push ys xs y x e in λ i. sym p.1 i ∷ sym p.0 i

owns_snoc : (seats : List SeatView) (s : SeatView) → map (λ s. s.own) (seats ++ s ∷ []) ≡ map (λ s. s.own) seats ++ s.own ∷ []
owns_snoc seats s = map-append (λ s. s.own) seats (s ∷ [])

rights_snoc : (seats : List SeatView) (s : SeatView) → map (λ s. s.right.deque) (seats ++ s ∷ []) ≡ map (λ s. s.right.deque) seats ++ s.right.deque ∷ []
rights_snoc seats s = map-append (λ s. s.right.deque) seats (s ∷ [])

pub begins_close : (all rest : List SeatView) (keys : List Numbers) (s : SeatView) (pushed taken : ℕ) → IsRing all → all ≡ rest ++ s ∷ [] → keys ≡ [] → pushed ≡ length s.put → taken ≡ length (got s) → pushed ≤ 2 ^ 59 → taken ≤ 2 ^ 59
    → Closing all rest s.own s.put s.popped s.right.deque s.right.stolen keys pushed taken
begins_close all rest keys s pushed taken ring e none is_put is_got few_put few_got = record {
  linked = sym (owns_snoc rest s) ∙ sym (ap (map (λ s. s.own)) e) ∙ unrotate (map (λ s. s.own) all) (map (λ s. s.right.deque) rest) s.right.deque (sym (rights_snoc rest s) ∙ sym (ap (map (λ s. s.right.deque)) e) ∙ ring.closed);
  balance = λ h.
      omega (
        arith,
        ap (weigh h) none,
        ap (λ (l : List SeatView). weigh h (all_put l)) e,
        ap (weigh h) (all_put_snoc rest s),
        weigh_append h (all_put rest) s.put,
        ap (λ (l : List SeatView). weigh h (all_got l)) e,
        ap (weigh h) (all_got_snoc rest s),
        weigh_append h (all_got rest) (got s),
        weigh_append h s.popped s.right.stolen,
      );
  puts = omega (arith, ap (λ (l : List SeatView). length (all_put l)) e, ap length (all_put_snoc rest s), length-append (all_put rest) s.put);
  gets = omega (arith, ap (λ (l : List SeatView). length (all_got l)) e, ap length (all_got_snoc rest s), length-append (all_got rest) (got s));
  put_fits = omega (arith, ring.few, ap length e, length_push rest s);
  got_fits = omega (arith, ring.few, ap length e, length_push rest s);
}

pub meets : (all rest rest' : List SeatView) (own : Deque) (put popped : List Numbers) (of : Deque) (stolen keys : List Numbers) (pushed taken : ℕ) (s : SeatView)
    → Closing all rest own put popped of stolen keys pushed taken → rest ≡ rest' ++ s ∷ [] → s.right.deque ≡ own
meets all rest rest' own put popped of stolen keys pushed taken s c e =
    sym (same_from_push (map (λ s. s.own) rest) (of ∷ map (λ s. s.right.deque) rest') own s.right.deque (c.linked ∙ ap (λ (l : List Deque). of ∷ l) (ap (map (λ s. s.right.deque)) e ∙ rights_snoc rest' s))).1

pub step_close : (all rest rest' : List SeatView) (own : Deque) (put popped : List Numbers) (of : Deque) (stolen keys keys' new : List Numbers) (pushed taken pushes gets : ℕ) (s : SeatView)
    → Closing all rest own put popped of stolen keys pushed taken → rest ≡ rest' ++ s ∷ [] → pushes ≡ length s.put → gets ≡ length (got s) → pushes ≤ 2 ^ 59 → gets ≤ 2 ^ 59 → keys' ≡ keys ++ new
    → ((h : Numbers → ℕ) → weigh h put ≡ weigh h popped + weigh h s.right.stolen + weigh h new)
    → Closing all rest' s.own s.put s.popped of stolen keys' (pushed + pushes) (taken + gets)
step_close all rest rest' own put popped of stolen keys keys' new pushed taken pushes gets s c e is_put is_got few_put few_got k drained = record {
  linked = sym (owns_snoc rest' s) ∙ sym (ap (map (λ s. s.own)) e)
      ∙ (same_from_push (map (λ s. s.own) rest) (of ∷ map (λ s. s.right.deque) rest') own s.right.deque (c.linked ∙ ap (λ (l : List Deque). of ∷ l) (ap (map (λ s. s.right.deque)) e ∙ rights_snoc rest' s))).0;
  balance = λ h.
      omega (
        arith,
        c.balance h,
        drained h,
        ap (weigh h) k,
        weigh_append h keys new,
        ap (λ (l : List SeatView). weigh h (all_put l)) e,
        ap (weigh h) (all_put_snoc rest' s),
        weigh_append h (all_put rest') s.put,
        ap (λ (l : List SeatView). weigh h (all_got l)) e,
        ap (weigh h) (all_got_snoc rest' s),
        weigh_append h (all_got rest') (got s),
        weigh_append h s.popped s.right.stolen,
      );
  puts = omega (arith, c.puts, ap (λ (l : List SeatView). length (all_put l)) e, ap length (all_put_snoc rest' s), length-append (all_put rest') s.put);
  gets = omega (arith, c.gets, ap (λ (l : List SeatView). length (all_got l)) e, ap length (all_got_snoc rest' s), length-append (all_got rest') (got s));
  put_fits = omega (arith, c.put_fits, ap length e, length_push rest' s);
  got_fits = omega (arith, c.got_fits, ap length e, length_push rest' s);
}

pub ends_close : (all rest : List SeatView) (own : Deque) (put popped : List Numbers) (of : Deque) (stolen keys keys' new : List Numbers) (pushed taken : ℕ) → Closing all rest own put popped of stolen keys pushed taken → rest ≡ [] → keys' ≡ keys ++ new
    → ((h : Numbers → ℕ) → weigh h put ≡ weigh h popped + weigh h stolen + weigh h new)
    → ((h : Numbers → ℕ) → weigh h (all_put all) ≡ weigh h (all_got all) + weigh h keys') × (pushed ≡ length (all_put all)) × (taken ≡ length (all_got all)) × (pushed ≡ taken + length keys')
ends_close all rest own put popped of stolen keys keys' new pushed taken c none k drained =
    let whole : (h : Numbers → ℕ) → weigh h (all_put all) ≡ weigh h (all_got all) + weigh h keys' = λ h.
    omega (arith, c.balance h, drained h, ap (weigh h) k, weigh_append h keys new, ap (λ (l : List SeatView). weigh h (all_put l)) none, ap (λ (l : List SeatView). weigh h (all_got l)) none) in
    let p : pushed ≡ length (all_put all) = omega (arith, c.puts, ap (λ (l : List SeatView). length (all_put l)) none) in
    let t : taken ≡ length (all_got all) = omega (arith, c.gets, ap (λ (l : List SeatView). length (all_got l)) none) in
    (whole, p, t, omega (arith, p, t, whole (λ _. 1), ones (all_put all), ones (all_got all), ones keys'))

pub length_got : (s : SeatView) → length (got s) ≡ length s.popped + length s.right.stolen
length_got s = length-append s.popped s.right.stolen
