use Rattle.std.proofs.Common.{◌≡◌, ℕ, ℤ, List, [], ◌∷◌, ◌++◌, ap, ◌∙◌, append_assoc, arith, w64, string_bytes}
use Rattle.std.specs.Fmt.{signed_decimal}
use Rattle.std.proofs.lemmas.Int.{to_z-of_z}
use Rattle.ntfe_model.specs.RunText.{spaced}
use Rattle.pair_text.proofs.writing.append_four.Goals as goal

appended : (t a b c d t1 t2 t3 t4 t5 : List ℕ) → t1 ≡ t ++ a → t2 ≡ t1 ++ b → t3 ≡ t2 ++ c → t4 ≡ t3 ++ d → t5 ≡ t4 ++ 10 ∷ [] → t5 ≡ t ++ (a ++ b ++ c ++ d ++ 10 ∷ [])
appended t a b c d t1 t2 t3 t4 t5 e1 e2 e3 e4 e5 = rw (e5, e4, e3, e2, e1) (simp append_assoc)

pub returns : goal.returns
returns c =
    let next = λ (old : List ℕ) (z : ℤ). old ++ spaced (signed_decimal z) in
    appended _ _ _ _ _ _ _ _ _ _
    (c.in_ok-write.ensures.bytes ∙ ap (λ (z : ℤ). string_bytes c.args.text.now ++ signed_decimal z) (to_z-of_z w64 c.args.a c.ranges.a))
    (c.in_ok-append_spaced.ensures ∙ ap (next (string_bytes c.write.new.self)) (to_z-of_z w64 c.args.b c.ranges.b))
    (c.in_ok-append_spaced-2.ensures ∙ ap (next (string_bytes c.append_spaced.new.text)) (to_z-of_z w64 c.args.c c.ranges.c))
    (c.in_ok-append_spaced-3.ensures ∙ ap (next (string_bytes c.append_spaced-2.new.text)) (to_z-of_z w64 c.args.d c.ranges.d))
    (c.in_ok-push.ensures.bytes ∙ ap (λ (x : List ℕ). string_bytes c.append_spaced-3.new.text ++ x) (c.in_ok-push.ensures.ascii (omega arith)))
