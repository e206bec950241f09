use Rattle.std.proofs.Common.{◌≡◌, ◌+◌, ◌*◌, ◌^◌, ◌≤◌, ◌∙◌, ap, subst, arith, mul-le-mul, to_z, of_z, w64, unsigned_abs, nat_lt}
use Rattle.std.proofs.lemmas.Bool.{ltb-true}
use Rattle.strict_solver.specs.Rows.{number}
use Rattle.strict_solver.specs.ShortRows.{IsShort}
use Rattle.strict_solver.proofs.Rows.{unwrap64}
use Rattle.strict_solver.proofs.ShortRows.{on_true}
use Rattle.strict_solver.proofs.short.is_short.Goals as goal

pub returns : goal.returns
returns c =
    let row = c.args.shares.now.row in
    let pivot = c.args.shares.now.pivot in
    let a : to_z w64 (of_z w64 row) ≡ row = unwrap64 row c.requires.first in
    let b : to_z w64 (of_z w64 pivot) ≡ pivot = unwrap64 pivot c.requires.second in
    let factor : c.from.result ≡ unsigned_abs pivot = c.from.ensures ∙ c.unsigned_abs.ensures.value ∙ ap unsigned_abs b in
    let size : c.from-2.result ≡ c.args.size = c.from-2.ensures in
    on_true (nat_lt (c.row_size-of_row.result + c.from.result * c.from-2.result) (2 ^ 63)) (IsShort c.args.shares.now c.args.row.now c.args.pivot.now)
    (λ e.
    record {
      each = λ k.
          (let h : unsigned_abs row * unsigned_abs (number c.args.row.now k) ≤ c.row_size-of_row.result =
          subst (λ z. unsigned_abs z * unsigned_abs (number c.args.row.now k) ≤ c.row_size-of_row.result) a (c.row_size-of_row.ensures.each k) in
          let j = c.requires.pivot.each k in
          let i : unsigned_abs pivot * unsigned_abs (number c.args.pivot.now k) ≤ c.from.result * c.from-2.result = mul-le-mul (omega arith) (omega arith) in
          let l = ltb-true (c.row_size-of_row.result + c.from.result * c.from-2.result) (2 ^ 63) e in
          omega arith);
    })
