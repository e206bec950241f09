-- Texts that are written one after the other.
use Rattle.std.proofs.Common.{◌≡◌, ◌∙◌, subst, append_assoc, ℕ, List, [], ◌++◌, Result, Ok, Err, arith}
use Rattle.std.specs.Prelude.{Option}
use Rattle.std.proofs.KnownBytes.{Appends-trans, Appends-nil}
use Rattle.io_edge.specs.Lines.{WritesText}
use Rattle.io_edge.specs.declared.line_fault.LineFault.{LineFault}
use Rattle.io_edge.specs.declared.line_fault.LineFault.TheVariants.{Memory}
use Rattle.io_edge.proofs.Pieces.{prefix_next, prefix_whole, prefix_more}

-- nothing
pub writes_nothing : (a : Option (List ℕ)) (f : ℕ) → WritesText a a f f (Ok tt) []
writes_nothing a f = record { ok = Appends-nil a; err = tt; later = omega arith; cause = λ e. cc }

-- no memory for a line, after some text: nothing more was written
pub writes_no_more : (a b : Option (List ℕ)) (f g : ℕ) (x y : List ℕ) → WritesText a b f g (Ok tt) x → WritesText a b f g (Err Memory) (x ++ y)
writes_no_more a b f g x y w = record { ok = tt; err = prefix_whole a b x y w.ok; later = w.later; cause = λ q. cc }

-- one text, and then another
pub writes_then : (a b c : Option (List ℕ)) (f g h : ℕ) (x y : List ℕ) (r : Result (Unit {0}) LineFault)
    → WritesText a b f g (Ok tt) x → WritesText b c g h r y → WritesText a c f h r (x ++ y)
writes_then a b c f g h x y (Ok t) v w = record {
  ok = Appends-trans a b c x y v.ok w.ok;
  err = tt;
  later = (let p = v.later in let q = w.later in omega arith);
  cause = λ e. cc;
}
writes_then a b c f g h x y (Err e) v w = record {
  ok = tt;
  err = prefix_next a b c x y v.ok w.err;
  later = (let p = v.later in let q = w.later in omega arith);
  cause = λ k. (let p = v.later in let q = w.cause k in omega arith);
}

-- the exit of a `?`: a text that was not written to its end begins a longer one
pub writes_exit : (a b : Option (List ℕ)) (f g : ℕ) (x z : List ℕ) (e : LineFault) → WritesText a b f g (Err e) x → WritesText a b f g (Err e) (x ++ z)
writes_exit a b f g x z e w = record { ok = tt; err = prefix_more a b x z w.err; later = w.later; cause = w.cause }

-- the exit of a `?` after some text
pub writes_stop : (a b c : Option (List ℕ)) (f g h : ℕ) (x y z text : List ℕ) (e : LineFault) → x ++ (y ++ z) ≡ text
    → WritesText a b f g (Ok tt) x → WritesText b c g h (Err e) y → WritesText a c f h (Err e) text
writes_stop a b c f g h x y z text e j v w =
    let P : List ℕ → Type 0 = WritesText a c f h (Err e) in
    subst P (append_assoc x y z ∙ j) (writes_exit a c f h (x ++ y) z e (writes_then a b c f g h x y (Err e) v w))
