use Rattle.std.proofs.Common.{◌≡◌, ◌∙◌, ℕ, List, [], ◌∷◌, ◌++◌, ap, append_assoc, to_z-of_z, decimal}
use Rattle.ntfe_model.specs.RunText.{spaced, vector_line}
use Rattle.ntfe_run.proofs.numbered.four_text.Goals as goal

-- pieces that were appended one after the other
joined : (n x y z w v t0 t1 t2 t3 t4 t5 : List ℕ) → t0 ≡ n → t1 ≡ t0 ++ x → t2 ≡ t1 ++ y → t3 ≡ t2 ++ z → t4 ≡ t3 ++ w → t5 ≡ t4 ++ v
    → t5 ≡ n ++ ((((x ++ y) ++ z) ++ w) ++ v)
joined n x y z w v t0 t1 t2 t3 t4 t5 a b c d e f =
    f ∙ ap (λ t. t ++ v) (e ∙ ap (λ t. t ++ w) (d ∙ ap (λ t. t ++ z) (c ∙ ap (λ t. t ++ y) (b ∙ ap (λ t. t ++ x) a)))) ∙ simp append_assoc

pub returns : goal.returns
unfolding lib.Utf8.encode
returns c =
    joined (decimal c.args.number) _ _ _ _ (10 ∷ []) _ _ _ _ _ _ c.in_ok-text.ensures.ok c.in_ok-append_signed.ensures c.in_ok-append_signed-2.ensures
    c.in_ok-append_signed-3.ensures c.in_ok-append_signed-4.ensures c.in_ok-push.ensures.bytes
    ∙ (λ j. decimal c.args.number ++ spaced (vector_line (record { x1 = to_z-of_z c.ranges.a j; x2 = to_z-of_z c.ranges.b j; x3 = to_z-of_z c.ranges.c j; x4 = to_z-of_z c.ranges.d j })))
