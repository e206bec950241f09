-- A ring stays a ring, whatever is done with its seats.
use Rattle.std.proofs.Common.{◌≡◌, ◌++◌, ℕ, ◌==◌, Bool, List, [], ◌∷◌, length, map, All, refl, sym, ap, ◌∙◌, subst, arith}
use Rattle.std.proofs.lemmas.List.{nil_from_length, length-map, length_push}
use Rattle.std.proofs.lemmas.List.Elements.{All-nil, All-head, All-tail, All-cons}
use Rattle.steal_ring.specs.Seats.{SeatView, rotated, IsRing, IsSameSeat, AreSameSeats}

same_map : {X : Type 0} (f : SeatView → X) → ((s t : SeatView) → IsSameSeat s t → f t ≡ f s) → (ss ts : List SeatView) → AreSameSeats ss ts → map f ts ≡ map f ss
same_map f at [] ts e = ap (map f) e
same_map f at (s ∷ ss) ts k = ap (map f) k.2 ∙ (λ i. at s k.0 k.3 i ∷ same_map f at ss k.1 k.4 i)

same_length : (ss ts : List SeatView) → AreSameSeats ss ts → length ts ≡ length ss
same_length [] ts e = ap length e
same_length (s ∷ ss) ts k = omega (arith, ap length k.2, same_length ss k.1 k.4)

same_alone : (b : Bool) (ss ts : List SeatView) → AreSameSeats ss ts → All (λ s. s.alone ≡ b) ss → All (λ s. s.alone ≡ b) ts
same_alone b [] ts e h = subst (All (λ s. s.alone ≡ b)) (sym e) (All-nil (λ s. s.alone ≡ b))
same_alone b (s ∷ ss) ts k h =
    subst (All (λ s. s.alone ≡ b)) (sym k.2) (All-cons (λ s. s.alone ≡ b) k.0 k.1 (k.3.alone ∙ All-head (λ s. s.alone ≡ b) s ss h) (same_alone b ss k.1 k.4 (All-tail (λ s. s.alone ≡ b) s ss h)))

pub same_ring : (ss ts : List SeatView) → AreSameSeats ss ts → IsRing ss → IsRing ts
same_ring ss ts k ring =
    let l = same_length ss ts k in record {
      some = omega (arith, l, ring.some);
      few = omega (arith, l, ring.few);
      closed = same_map (λ s. s.right.deque) (λ s t e. e.right) ss ts k ∙ ring.closed ∙ sym (ap rotated (same_map (λ s. s.own) (λ s t e. e.own) ss ts k));
      lone = subst (λ (n : ℕ). All (λ s. s.alone ≡ (n == 1)) ts) (sym l) (same_alone (length ss == 1) ss ts k ring.lone);
    }

pub same_pair : (a b c d : SeatView) → IsSameSeat a c → IsSameSeat b d → IsRing (a ∷ b ∷ []) → IsRing (c ∷ d ∷ [])
same_pair a b c d x y ring = same_ring (a ∷ b ∷ []) (c ∷ d ∷ []) (c, d ∷ [], refl, x, (d, [], refl, y, refl)) ring

pub pair_ring : (all rest first : List SeatView) (one two : SeatView) → IsRing all → map (λ s. s.number) all ≡ 1 ∷ 2 ∷ [] → all ≡ rest ++ two ∷ [] → rest ≡ first ++ one ∷ [] → IsRing (one ∷ two ∷ [])
pair_ring all rest first one two ring numbers e d =
    let none : first ≡ [] = nil_from_length first (omega (arith, ap length e, ap length d, length_push rest two, length_push first one, ap length numbers, length-map all (λ (s : SeatView). s.number))) in
    subst IsRing (e ∙ ap (λ (l : List SeatView). l ++ two ∷ []) (d ∙ ap (λ (l : List SeatView). l ++ one ∷ []) none)) ring
