use Rattle.std.proofs.Common.{◌≡◌, ◌≢◌, ◌+◌, ◌^◌, ◌<◌, ◌∙◌, ◌*ℤ◌, ◌<ℤ◌, ℤ, pos, List, ap, sym, subst, arith, refl, length, unsigned_abs, to_z, of_z, w64}
use Rattle.std.proofs.lemmas.List.{get_or_read}
use Rattle.ntfe_nums.specs.Vectors.{sign}
use Rattle.strict_solver.specs.declared.place.Place.TheVariants.{Row, Column}
use Rattle.strict_solver.specs.Rows.{number}
use Rattle.strict_solver.proofs.Parts.{lent_back}
use Rattle.strict_solver.proofs.Elimination.{at_place, from_place, same_place}
use Rattle.strict_solver.proofs.Words.{word30}
use Rattle.strict_solver.proofs.Exchanging.{narrow_after, put_again}
use Rattle.strict_solver.proofs.basis.Basis.exchange.Goals as goal
use Rattle.strict_solver.proofs.Steps.{sign_positive}
use Rattle.strict_solver.proofs.Placing.{same_column}

pub returns-clause-answer : goal.returns-clause-answer
returns-clause-answer c =
    let b = c.args.self.now in
    let p = c.in-Column.p in
    let places = b.places.items in
    let line = b.line.items in
    let l = c.requires.leaves in
    let n = c.requires.enters in
    let leaves = at_place places c.args.leaving c.index.result.now (Row c.in-Row.r) (from_place places c.args.leaving (Row 0) (Row l.0) l.1).0 (sym c.index.ensures ∙ c.in-Row.is) in
    let enters = at_place places c.args.entering c.index-2.result.now (Column c.in-Column.p) (from_place places c.args.entering (Row 0) (Column n.0) n.1).0 (sym c.index-2.ensures ∙ c.in-Column.is) in
    let column : n.0 ≡ c.in-Column.p = same_column n.0 c.in-Column.p (same_place places c.args.entering (Column n.0) (Column c.in-Column.p) n.1 enters) in
    let some : number b.line.items c.in-Column.p ≢ pos 0 = λ e. n.4 (ap (number line) column ∙ e) in
    let within : c.in-Column.p < length b.line.items = (let a = n.3 in let e = c.requires.sized.line in omega arith) in
    let stride : length c.deref.result.now ≡ b.columns + 2 = ap (λ (xs : List ℤ). length xs) c.deref.ensures.value ∙ c.requires.sized.line in
    let divisor = c.new-divisor.ensures ∙ word30 b.denominator c.requires.sized.small in
    let new = c.put_in_rows.new.cells in
    let back = lent_back b.cells.len new b.cells.items (c.put_in_rows.ensures.count ∙ c.deref_mut.ensures.len) in
    let lp = word30 (number line p) (c.requires.line.each p) in
    let at3 = ap (λ z. to_z w64 (of_z w64 z)) (get_or_read line p c.index-3.result.now within c.index-3.ensures (pos 0)) ∙ lp in
    let at4 = ap (λ z. to_z w64 (of_z w64 z)) (get_or_read line p c.index-4.result.now within c.index-4.ensures (pos 0)) ∙ lp in
    let size = c.signed-self.ensures.size in
    let word = word30 c.signed-self.result size in
    let denominator : to_z w64 (of_z w64 c.signed-self.result) ≡ sign (number b.line.items c.in-Column.p) *ℤ number b.line.items c.in-Column.p = word ∙ c.signed-self.ensures.value ∙ (λ t. sign (at3 t) *ℤ at4 t) in
    let P : ℤ → Type 0 = λ z. pos 0 <ℤ z in
    let Q : ℤ → Type 0 = λ z. unsigned_abs z < 2 ^ 30 in
    let put = put_again c.deref.result.now line p b.columns (length c.deref.result.now) (b.columns + 2) c.new-divisor.result.number b.denominator c.deref_mut.result.now b.cells.items new _
    c.deref.ensures.value stride divisor c.deref_mut.ensures.value back c.if-not-put_in_rows.ensures.answer in
    record {
      row = c.in-Row.r;
      column = c.in-Column.p;
      leaves = leaves;
      enters = enters;
      columns = refl;
      places = refl;
      denominator = denominator;
      put = put;
      sized = record {
        few = c.requires.sized.few;
        cells = ap (λ (xs : List ℤ). length xs) back ∙ c.put_in_rows.ensures.count ∙ ap (λ (xs : List ℤ). length xs) c.deref_mut.ensures.value ∙ c.requires.sized.cells;
        line = c.requires.sized.line;
        narrow = narrow_after line p b.columns (b.columns + 2) b.denominator b.cells.items _ _ refl put;
        positive = subst P (sym denominator) (sign_positive (number line p) some);
        small = subst Q (sym word) size;
      };
    }
