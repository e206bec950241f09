-- Which commands take the options that are given.
use Rattle.std.proofs.Common.{◌≡◌, ◌∙◌, ◌&&◌, ◌||◌, Bool, true, false, true≢false, List, [], ◌∷◌, codes, Option, Some, None, is_some, refl, sym, ap, ap₂}
use Rattle.std.specs.Str.{bytes_eq}
use Rattle.clap.proofs.WalkLemmas.{both}
use Rattle.ntfe_words.specs.CommandLine.{Text, Setting, Reading, have_names, is_demo_option, is_option, values_of}
use Rattle.ntfe_words.specs.Parse.{IsGiven, flag_given, has_demo_option, has_list_option, text_of, values_given}
use Rattle.ntfe_words.specs.declared.given.Given.{Given}
use Rattle.ntfe_words.proofs.Rows.{value-first, value-other}
use Rattle.ntfe_words.proofs.Plausible.{none-named}

-- an option that is not given is none of the list
other-name : (n : Text) (s : Setting) (ss : List Setting) → values_of n (s ∷ ss) ≡ [] → (bytes_eq s.name n ≡ false) × (values_of n ss ≡ [])
other-name n s ss e = go (bytes_eq s.name n) refl
  where
    go : (b : Bool) → bytes_eq s.name n ≡ b → (bytes_eq s.name n ≡ false) × (values_of n ss ≡ [])
    go true f =
        let bad : s.value ∷ values_of n ss ≡ [] = sym (value-first n s ss f) ∙ e in
        absurd cc
    go false f = (f, sym (value-other n s ss f) ∙ e)

neither : (b c : Bool) → (b || c) ≡ true → c ≡ false → b ≡ true
neither true c e f = refl
neither false c e f = absurd (true≢false (sym e ∙ f))

demo-names : (ss : List Setting) → have_names is_option ss ≡ true → values_of (codes "limit") ss ≡ [] → values_of (codes "push") ss ≡ [] → values_of (codes "stars") ss ≡ []
    → have_names is_demo_option ss ≡ true
demo-names [] known limit push stars = refl
demo-names (s ∷ ss) known limit push stars =
    let parts = both (is_option s.name) (have_names is_option ss) known in
    let l = other-name (codes "limit") s ss limit in
    let p = other-name (codes "push") s ss push in
    let t = other-name (codes "stars") s ss stars in
    ap₂ (λ a b. a && b) (neither (is_demo_option s.name) _ parts.0 (λ i. l.0 i || (p.0 i || t.0 i))) (demo-names ss parts.1 l.1 p.1 t.1)

no-names : (ss : List Setting) → have_names is_demo_option ss ≡ true → values_of (codes "workers") ss ≡ [] → values_of (codes "width") ss ≡ [] → ss ≡ []
no-names [] known workers width = refl
no-names (s ∷ ss) known workers width =
    let w = other-name (codes "workers") s ss workers in
    let i = other-name (codes "width") s ss width in
    absurd (true≢false (sym (both (is_demo_option s.name) (have_names is_demo_option ss) known).0 ∙ (λ k. w.0 k || i.0 k)))

not-given : (o : Option Text) → is_some o ≡ false → values_given o ≡ []
not-given None e = refl
not-given (Some t) e = absurd (true≢false e)

no-value : (o : Option Text) → values_given o ≡ [] → is_some o ≡ false
no-value None e = refl
no-value (Some t) e = absurd cc

no-flag : (b : Bool) → flag_given b ≡ [] → b ≡ false
no-flag false e = refl
no-flag true e = absurd cc

either-false : (a b : Bool) → (a || b) ≡ false → (a ≡ false) × (b ≡ false)
either-false false b e = (refl, e)
either-false true b e = absurd (true≢false e)

pub only-demo : (r : Reading) (g : Given) → IsGiven r g → has_list_option g ≡ false → have_names is_demo_option r.settings ≡ true
only-demo r g is e =
    let limit = either-false (is_some (text_of g.limit)) (is_some (text_of g.push) || g.stars) e in
    let push = either-false (is_some (text_of g.push)) g.stars limit.1 in
    demo-names r.settings is.known (is.limit ∙ not-given (text_of g.limit) limit.0) (is.push ∙ not-given (text_of g.push) push.0) (is.stars ∙ ap flag_given push.1)

pub no-option : (r : Reading) (g : Given) → IsGiven r g → has_demo_option g ≡ false → has_list_option g ≡ false → r.settings ≡ []
no-option r g is d l =
    let parts = either-false (is_some (text_of g.workers)) (is_some (text_of g.width)) d in
    no-names r.settings (only-demo r g is l) (is.workers ∙ not-given (text_of g.workers) parts.0) (is.width ∙ not-given (text_of g.width) parts.1)

-- the options of `demo` are none of a listing alone
pub demo-only : (r : Reading) (g : Given) → IsGiven r g → have_names is_demo_option r.settings ≡ true → has_list_option g ≡ false
demo-only r g is known =
    let limit = no-value (text_of g.limit) (sym is.limit ∙ none-named is_demo_option (codes "limit") r.settings known refl) in
    let push = no-value (text_of g.push) (sym is.push ∙ none-named is_demo_option (codes "push") r.settings known refl) in
    let stars = no-flag g.stars (sym is.stars ∙ none-named is_demo_option (codes "stars") r.settings known refl) in
    (λ i. limit i || (push i || stars i))
