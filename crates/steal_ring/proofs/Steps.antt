-- Each move keeps the rule of a deque.
use Rattle.std.proofs.Common.{◌≡◌, ◌≢◌, ℕ, zero, suc, ◌+◌, ◌-◌, ◌<◌, ◌≤◌, List, [], ◌∷◌, ◌++◌, length, set, sym, refl, ap, ◌∙◌, subst, ⊎_elim, arith}
use mathlib.Core.Option.{some, some-injective, some-ne-none}
use lib.ListN.{get_elem?}
use Rattle.crossbeam_deque.specs.Tasks.{Pushes, Takes, Finds, FindsFew, Forks, Merges, Learns}
use Rattle.crossbeam_deque.proofs.Lists.{at_set, at_snoc}
use Rattle.steal_ring.specs.declared.conservation.History.{History}
use Rattle.steal_ring.specs.Conservation.{Numbers, history, weigh, total, IdleIsEmpty, IsConserved, WasEmpty}

pub weigh_append : (h : Numbers → ℕ) (xs ys : List Numbers) → weigh h (xs ++ ys) ≡ weigh h xs + weigh h ys
weigh_append h [] ys = omega arith
weigh_append h (x ∷ xs) ys = omega (arith, weigh_append h xs ys)

total_set : (f : History → ℕ) (views : List History) (port : ℕ) (v w : History) → get_elem? views port ≡ some v → total f (set views port w) + f v ≡ total f views + f w
total_set f [] port v w e = absurd (some-ne-none v (sym e))
total_set f (x ∷ xs) zero v w e = omega (arith, ap f (some-injective x v e))
total_set f (x ∷ xs) (suc port) v w e = omega (arith, total_set f xs port v w e)

total_snoc : (f : History → ℕ) (views : List History) (v : History) → total f (views ++ v ∷ []) ≡ total f views + f v
total_snoc f [] v = omega arith
total_snoc f (x ∷ xs) v = omega (arith, total_snoc f xs v)

idle_set : (views : List History) (port : ℕ) (w : History) → (w.parts ≡ 0 → (w.put ≡ []) × (w.taken ≡ [])) → IdleIsEmpty views → IdleIsEmpty (set views port w)
idle_set views port w mine others j u e none = ⊎_elim (λ (x : (j ≡ port) × (w ≡ u)). subst (λ (y : History). (y.put ≡ []) × (y.taken ≡ [])) x.1 (mine (ap (λ (y : History). y.parts) x.1 ∙ none)))
    (λ (x : (j ≢ port) × (get_elem? views j ≡ some u)). others j u x.1 none) (at_set views port j w u e)

pub begins : IsConserved [] (history 2 [] [] ∷ [])
begins = (refl, (λ h. refl), λ j u e none. ⊎_elim (λ (x : get_elem? [] j ≡ some u). absurd (some-ne-none u (sym x))) (λ (x : history 2 [] [] ≡ u). absurd (omega (arith, ap (λ (y : History). y.parts) x, none))) (at_snoc [] (history 2 [] []) u j e))

pub puts : (port : ℕ) (v : History) (xs : List Numbers) → 0 < v.parts → Pushes IsConserved port v xs (λ w. w ≡ history v.parts (v.put ++ xs) v.taken)
puts port v xs some_part items views b at =
    let w : History = history v.parts (v.put ++ xs) v.taken in (
      w,
      (
        (let s = total_set (λ u. u.parts) views port v w at in let p = b.0 in omega arith),
        (λ h.
            let s = total_set (λ u. weigh h u.put) views port v w at in
            let t = total_set (λ u. weigh h u.taken) views port v w at in
            let p = b.1 h in
            omega (arith, weigh_append h v.put xs, weigh_append h items xs)),
        idle_set views port w (λ none. absurd (omega arith)) b.2,
      ),
      refl,
    )

pub takes : (port : ℕ) (v : History) → 0 < v.parts → Takes IsConserved port v 1 (λ xs w. w ≡ history v.parts v.put (v.taken ++ xs))
takes port v some_part xs items views _ _ b at =
    let w : History = history v.parts v.put (v.taken ++ xs) in (
      w,
      (
        (let s = total_set (λ u. u.parts) views port v w at in let p = b.0 in omega arith),
        (λ h.
            let s = total_set (λ u. weigh h u.put) views port v w at in
            let t = total_set (λ u. weigh h u.taken) views port v w at in
            let p = b.1 h in
            omega (arith, weigh_append h v.taken xs, weigh_append h xs items)),
        idle_set views port w (λ none. absurd (omega arith)) b.2,
      ),
      refl,
    )

pub finds : (port : ℕ) (v : History) → Finds IsConserved port v (WasEmpty v)
finds port v views b at = (views, port, b, at)

pub finds_few : (port : ℕ) (v : History) → FindsFew IsConserved 0 port v (WasEmpty v)
finds_few port v [] views few b at = (views, port, b, at)
finds_few port v (x ∷ xs) views few b at = absurd (omega arith)

pub forks : (port : ℕ) (v : History) → 1 < v.parts → Forks IsConserved port v (history (v.parts - 1) v.put v.taken) (history 1 [] [])
forks port v more items views b at =
    let l : History = history (v.parts - 1) v.put v.taken in
    let r : History = history 1 [] [] in
    let vs : List History = set views port l in (
      (let s = total_set (λ u. u.parts) views port v l at in let p = b.0 in omega (arith, total_snoc (λ u. u.parts) vs r)),
      (λ h.
          let s = total_set (λ u. weigh h u.put) views port v l at in
          let t = total_set (λ u. weigh h u.taken) views port v l at in
          let p = b.1 h in
          omega (arith, total_snoc (λ u. weigh h u.put) vs r, total_snoc (λ u. weigh h u.taken) vs r)),
      λ j u e none. ⊎_elim (λ (x : get_elem? vs j ≡ some u). idle_set views port l (λ k. absurd (omega arith)) b.2 j u x none)
          (λ (x : r ≡ u). absurd (omega (arith, ap (λ (y : History). y.parts) x, none))) (at_snoc vs r u j e),
    )

pub merges : (port : ℕ) (v : History) (other : ℕ) (u : History) → 0 < v.parts → Merges IsConserved port v other u (history (v.parts + u.parts) (v.put ++ u.put) (v.taken ++ u.taken)) (history 0 [] [])
merges port v other u some_part items views b at two at' =
    let both : History = history (v.parts + u.parts) (v.put ++ u.put) (v.taken ++ u.taken) in
    let spent : History = history 0 [] [] in
    let vs : List History = set views port both in (
      (let s = total_set (λ y. y.parts) views port v both at in let t = total_set (λ y. y.parts) vs other u spent at' in let p = b.0 in omega arith),
      (λ h.
          let s = total_set (λ y. weigh h y.put) views port v both at in
          let s' = total_set (λ y. weigh h y.put) vs other u spent at' in
          let t = total_set (λ y. weigh h y.taken) views port v both at in
          let t' = total_set (λ y. weigh h y.taken) vs other u spent at' in
          let p = b.1 h in
          omega (arith, weigh_append h v.put u.put, weigh_append h v.taken u.taken)),
      idle_set vs other spent (λ _. (refl, refl)) (idle_set views port both (λ none. absurd (omega arith)) b.2),
    )

nothing : (f : History → ℕ) (views : List History) → ((u : History) → (u.put ≡ []) × (u.taken ≡ []) → f u ≡ 0) → IdleIsEmpty views → total (λ u. u.parts) views ≡ 0 → total f views ≡ 0
nothing f [] zero_at idle none = refl
nothing f (x ∷ xs) zero_at idle none = omega (arith, zero_at x (idle 0 x refl (omega arith)), nothing f xs zero_at (λ j u e. idle (suc j) u e) (omega arith))

alone : (f : History → ℕ) (views : List History) (port : ℕ) (v : History) → ((u : History) → (u.put ≡ []) × (u.taken ≡ []) → f u ≡ 0) → IdleIsEmpty views → get_elem? views port ≡ some v → total (λ u. u.parts) views ≡ v.parts → total f views ≡ f v
alone f [] port v zero_at idle at whole = absurd (some-ne-none v (sym at))
alone f (x ∷ xs) zero v zero_at idle at whole =
    let e = some-injective x v at in
    omega (arith, ap f e, nothing f xs zero_at (λ j u k. idle (suc j) u k) (omega (arith, ap (λ (y : History). y.parts) e)))
alone f (x ∷ xs) (suc port) v zero_at idle at whole =
    let s = total_set (λ u. u.parts) xs port v (history 0 [] []) at in
    omega (arith, zero_at x (idle 0 x refl (omega arith)), alone f xs port v zero_at (λ j u k. idle (suc j) u k) at (omega arith))

pub learns : (port : ℕ) (v : History) → v.parts ≡ 2 → Learns IsConserved port v (λ items. (h : Numbers → ℕ) → weigh h v.put ≡ weigh h v.taken + weigh h items)
learns port v whole items views b at h =
    let s = alone (λ u. weigh h u.put) views port v (λ u e. ap (weigh h) e.0) b.2 at (b.0 ∙ sym whole) in
    let t = alone (λ u. weigh h u.taken) views port v (λ u e. ap (weigh h) e.1) b.2 at (b.0 ∙ sym whole) in
    let p = b.1 h in
    omega arith

pub ones : (xs : List Numbers) → weigh (λ _. 1) xs ≡ length xs
ones [] = refl
ones (x ∷ xs) = omega (arith, ones xs)

pub last_takes : (port : ℕ) (v : History) → v.parts ≡ 2 → Takes IsConserved port v 1 (λ xs w. (w ≡ history v.parts v.put (v.taken ++ xs)) × (length w.taken ≤ length w.put))
last_takes port v whole xs items views some_there few b at =
    let t = takes port v (omega arith) xs items views some_there few b at in
    let e = learns port v whole (xs ++ items) views b at (λ _. 1) in
    let w : History = history v.parts v.put (v.taken ++ xs) in
    (w, subst (λ (u : History). IsConserved items (set views port u)) t.2 t.1, (refl, omega (arith, ones v.put, ones v.taken, ones (v.taken ++ xs), weigh_append (λ _. 1) v.taken xs, weigh_append (λ _. 1) xs items)))

pub last_finds : (port : ℕ) (v : History) → v.parts ≡ 2 → Finds IsConserved port v ((h : Numbers → ℕ) → weigh h v.put ≡ weigh h v.taken)
last_finds port v whole views b at h = omega (arith, learns port v whole [] views b at h)
