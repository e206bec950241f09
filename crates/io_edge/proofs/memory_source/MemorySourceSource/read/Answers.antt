use Rattle.std.proofs.Common.{◌≡◌, ℕ, ◌+◌, ◌-◌, List, ◌++◌, length, take, drop, arith, sym, ap, ◌∙◌, take-append-drop, length-take}
use Rattle.std.proofs.lemmas.List.{drop-drop, take_at, drop_all}
use Rattle.io_edge.proofs.memory_source.MemorySourceSource.read.Goals as goal

-- the bytes given, and those that are left behind them
parted : (xs front back : List ℕ) (at n : ℕ) → front ≡ take ((at + n) - at) (drop at xs) → length front ≡ n → drop at xs ≡ take n (front ++ back) ++ drop (at + n) xs
parted xs front back at n e k =
    let m : (at + n) - at ≡ n = omega arith in
    sym (take-append-drop n (drop at xs)) ∙ (λ i. (ap (λ j. take j (drop at xs)) (sym m) ∙ sym e ∙ sym (take_at front back n k)) i ++ drop-drop n at xs i)

pub returns-clause-bytes : goal.returns-clause-bytes
returns-clause-bytes c =
    let inside = c.self.inside in
    let n = c.min-count.result in
    let items = c.deref-2.ensures.value in
    let size : length c.copy_from_slice.new.self ≡ n = omega (arith, c.copy_from_slice.ensures.len, length-take n c.args.into.now, c.min-count.ensures, c.min.ensures) in (
      ap (λ s. s.left) (sym c.self.view_is) ∙ parted inside.bytes.items c.copy_from_slice.new.self (drop n c.args.into.now) inside.at n
          (c.copy_from_slice.ensures.after ∙ ap (λ l. take ((inside.at + n) - inside.at) (drop inside.at l)) items) size,
      λ none room. drop_all (inside.at + n) inside.bytes.items (let step = c.self.invariant.1 in omega (arith, c.min-count.ensures, c.min.ensures, c.len.ensures, c.requires, c.deref.ensures.len)),
    )
