use Rattle.std.proofs.Common.{◌≡◌, ℕ, ◌+◌, ◌*◌, ◌<◌, ◌^◌, ◌∙◌, ℤ, pos, ap, sym, subst, arith, length, length-set, get_or, get_or-set_other, unsigned_abs, to_z, of_z, w64}
use Rattle.strict_solver.specs.Rows.{number}
use Rattle.strict_solver.specs.Grids.{row_at}
use Rattle.strict_solver.proofs.Rows.{set_next}
use Rattle.strict_solver.proofs.Parts.{row_number}
use Rattle.strict_solver.proofs.Words.{word30}
use Rattle.strict_solver.proofs.answering.gather.Goals as goal

pub loop-k-preserved : goal.loop-k-preserved
loop-k-preserved c =
    let s = c.args.rows + 2 in
    let k = c.loop-k.k in
    let out = c.loop-k.out in
    let cells = c.args.cells.now in
    let i = c.loop-k.invariant in
    let z0 = get_or cells (k * s + 1) (pos 0) in
    let rn : number (row_at (c.args.rows + 2) c.args.cells.now c.loop-k.k) 1 ≡ get_or c.args.cells.now (c.loop-k.k * (c.args.rows + 2) + 1) (pos 0) = row_number s cells k 1 (omega arith) in
    let A : ℤ → Type 0 = λ v. unsigned_abs v < 2 ^ 30 in
    let small = subst A rn ((c.requires.cells.each k (omega arith)).each 1) in
    let is = word30 z0 small in
    let z = to_z w64 (of_z w64 z0) in
    let Q : ℕ → ℤ → Type 0 = λ n v. (j : ℕ) → n ≡ j + 1 → v ≡ number (row_at s cells j) 1 in
    let here : Q (k + 1) z = λ j e. is ∙ sym rn ∙ ap (λ m. number (row_at s cells m) 1) (let f : k ≡ j = omega arith in f) in
    let lk : c.loop-k.k + 1 < length c.loop-k.out = (let a = i.count in let b = c.requires.count in omega arith) in
    let below : (n : ℕ) → n < k + 1 → Q n (number out n) = λ n l j e. ap (number out) e ∙ i.each j (omega arith) in
    record {
      count = length-set out (k + 1) z ∙ i.count;
      first = get_or-set_other out (k + 1) 0 z (pos 0) (λ e. omega arith) ∙ i.first;
      each = λ j l. set_next out (k + 1) z Q lk here below (j + 1) (omega arith) j (let f : j + 1 ≡ j + 1 = omega arith in f);
      small = λ j l. set_next out (k + 1) z (λ n v. unsigned_abs v < 2 ^ 30) lk (subst A (sym is) small) (λ n m. i.small n m) j (omega arith);
    }
