-- What pieces append, one after the other.
use Rattle.std.proofs.Common.{ℕ, List, [], ◌++◌, refl, sym, ap, ◌∙◌, append_assoc, append-nil, Result, Ok, Err, OnErr}
use Rattle.std.specs.Prelude.{Option}
use Rattle.std.proofs.KnownBytes.{Appends-trans, Appends-nil}
use Rattle.std.specs.Io.KnownBytes.{Appends}
use Rattle.io_edge.specs.Causes.{AppendsPrefix}

pub OnErr-always : {T E : Type 0} (r : Result T E) (P : Type 0) → P → OnErr r P
OnErr-always (Ok x) P p = tt
OnErr-always (Err e) P p = p

-- a whole text, and then a part of the next
pub prefix_next : (a b c : Option (List ℕ)) (xs ys : List ℕ) → Appends a b xs → AppendsPrefix b c ys → AppendsPrefix a c (xs ++ ys)
prefix_next a b c xs ys p q = record {
  front = xs ++ q.front;
  rest = q.rest;
  whole = ap (λ l. xs ++ l) q.whole ∙ sym (append_assoc xs q.front q.rest);
  appends = Appends-trans a b c xs q.front p q.appends;
}

-- a part of a text is a part of a longer one
pub prefix_more : (a b : Option (List ℕ)) (xs zs : List ℕ) → AppendsPrefix a b xs → AppendsPrefix a b (xs ++ zs)
prefix_more a b xs zs q = record {
  front = q.front;
  rest = q.rest ++ zs;
  whole = ap (λ l. l ++ zs) q.whole ∙ append_assoc q.front q.rest zs;
  appends = q.appends;
}

-- some whole pieces alone
pub prefix_whole : (a b : Option (List ℕ)) (xs zs : List ℕ) → Appends a b xs → AppendsPrefix a b (xs ++ zs)
prefix_whole a b xs zs p = record { front = xs; rest = zs; whole = refl; appends = p }

-- nothing
pub prefix_none : (a : Option (List ℕ)) (zs : List ℕ) → AppendsPrefix a a zs
prefix_none a zs = record { front = []; rest = zs; whole = refl; appends = Appends-nil a }

-- all of the text
pub prefix_all : (a b : Option (List ℕ)) (xs : List ℕ) → Appends a b xs → AppendsPrefix a b xs
prefix_all a b xs p = record { front = xs; rest = []; whole = sym (append-nil xs); appends = p }
