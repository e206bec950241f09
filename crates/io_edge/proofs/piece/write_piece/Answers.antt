use Rattle.std.proofs.Common.{ℕ, List, arith, ◌≡◌, ◌+◌, ◌-◌, ◌≤◌, length, take, drop, length-drop, sym, ap}
use Rattle.std.specs.Prelude.{Option}
use Rattle.std.proofs.lemmas.List.{take_all}
use Rattle.std.proofs.Math.Seq.{take-add}
use Rattle.std.proofs.KnownBytes.{Appends-trans, Appends-kept}
use Rattle.std.specs.Io.KnownBytes.{Appends}
use Rattle.std.proofs.Common.{take-append-drop}
use Rattle.io_edge.specs.Causes.{AppendsPrefix}
use Rattle.io_edge.proofs.Pieces.{OnErr-always}
use Rattle.io_edge.proofs.piece.write_piece.Goals as goal

-- what is left from m on
rest_is : (xs : List ℕ) (m : ℕ) → take (length xs - m) (drop m xs) ≡ drop m xs
rest_is xs m = take_all (length xs - m) (drop m xs) (omega (arith, length-drop m xs))

-- the first m, and then the first n of the rest
further : (a b c : Option (List ℕ)) (xs : List ℕ) (m n : ℕ) → Appends a b (take m xs) → Appends b c (take n (take (length xs - m) (drop m xs))) → Appends a c (take (m + n) xs)
further a b c xs m n p q =
    rw (take-add m n xs) (Appends-trans a b c (take m xs) (take n (drop m xs)) p (rw rest_is at q))

within : (xs : List ℕ) (m n : ℕ) → m ≤ length xs → n ≤ length (take (length xs - m) (drop m xs)) → m + n ≤ length xs
within xs m n h k = omega (arith, ap length (rest_is xs m), length-drop m xs)

pub loop-done-preserved : goal.loop-done-preserved
loop-done-preserved g c =
    let k = g.K.Sink.taken in
    let room = c.in_ok-count.ensures.count in
    record {
      bound = within c.args.piece.now c.loop-done.done c.in_ok-count.count c.loop-done.invariant.bound room.1;
      taken = further (k c.args.sink.now) (k c.loop-done.sink) (k c.write.new.self) c.args.piece.now c.loop-done.done c.in_ok-count.count c.loop-done.invariant.taken c.in_ok-count.ensures.bytes;
      later = omega (arith, c.write.ensures.cause.later, c.loop-done.invariant.later);
    }

pub returns-in_err-count-clause-err : goal.returns-in_err-count-clause-err
returns-in_err-count-clause-err g c =
    let k = g.K.Sink.taken in
    OnErr-always c.from_residual.result (AppendsPrefix (k c.args.sink.now) (k c.write.new.self) c.args.piece.now) record {
      front = take c.loop-done.done c.args.piece.now;
      rest = drop c.loop-done.done c.args.piece.now;
      whole = sym (take-append-drop c.loop-done.done c.args.piece.now);
      appends = Appends-kept (k c.args.sink.now) (k c.loop-done.sink) (k c.write.new.self) _ c.loop-done.invariant.taken c.in_err-count.ensures.bytes;
    }
