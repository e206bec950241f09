-- The axes of a patch are the first pair of coordinates that spans.
use Rattle.std.proofs.Common.{◌≡◌, Bool, cond}
use Rattle.ntfe_model.specs.Charts.{Patch, axes, spans}

pub axes_are : (h : Patch) (a b c d e f : Bool) → spans h (1, 2) ≡ a → spans h (1, 3) ≡ b → spans h (1, 4) ≡ c → spans h (2, 3) ≡ d → spans h (2, 4) ≡ e → spans h (3, 4) ≡ f
    → axes h ≡ cond a (1, 2) (cond b (1, 3) (cond c (1, 4) (cond d (2, 3) (cond e (2, 4) (cond f (3, 4) (1, 2))))))
unfolding axes
axes_are h a b c d e f ea eb ec ed ee ef = λ i. cond (ea i) (1, 2) (cond (eb i) (1, 3) (cond (ec i) (1, 4) (cond (ed i) (2, 3) (cond (ee i) (2, 4) (cond (ef i) (3, 4) (1, 2))))))
