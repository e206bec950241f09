-- Two facets meet in a two-face where a first, a second and a third vertex are found.
use Rattle.std.proofs.Common.{◌≡◌, ℕ, ◌<◌, ◌≤◌, List, length, true, negsuc}
use Rattle.std.specs.Prelude.{All, Any, Contains}
use Rattle.std.proofs.lemmas.List.Elements.{All-contains}
use Rattle.std.proofs.lemmas.Bool.Decides.{Decides-int_eq}
use Rattle.ntfe_nums.specs.Vectors.{Vector, dot}
use Rattle.ntfe_model.specs.Pairs.{VertexLists, entry}
use Rattle.ntfe_model.specs.Points.{MeetInTwoFace, is_tight}
use Rattle.ntfe_model.specs.Reflexive.{IsTight}
use Rattle.two_faces.specs.Meets.{IsThird, IsSecond, IsFirst}

contained : {X : Type 0} (P : X → Type 0) (xs : List X) (h : Any P xs) → Contains xs h.1
contained P xs h = (h.0, h.2, h.3)

any_from : {X : Type 0} (P : X → Type 0) (xs : List X) (x : X) → Contains xs x → P x → Any P xs
any_from P xs x c h = (c.0, x, c.1, c.2, h)

module _ (p : VertexLists) (i j : ℕ) (ordered : (1 ≤ i) × (i < j) × (j ≤ length p.dual)) where
  pub meet_from : Any (IsFirst (entry p.dual i) (entry p.dual j) p.vertices) p.vertices → MeetInTwoFace p i j
  meet_from h =
      let m = entry p.dual i in
      let n = entry p.dual j in
      let vs = p.vertices in
      let k = h.4.second in
      let l = k.4.third in
      record {
        ordered = ordered;
        a = h.1;
        b = k.1;
        c = l.1;
        vertices = (contained (IsFirst m n vs) vs h, contained (IsSecond m n vs h.1) vs k, contained (IsThird m n h.1 k.1) vs l);
        first = (h.4.place.first, k.4.place.first, l.4.place.first);
        second = (h.4.place.second, k.4.place.second, l.4.place.second);
        span = l.4.span;
      }

  pub first_from : MeetInTwoFace p i j → Any (IsFirst (entry p.dual i) (entry p.dual j) p.vertices) p.vertices
  first_from h =
      let m = entry p.dual i in
      let n = entry p.dual j in
      let vs = p.vertices in
      let c : IsThird m n h.a h.b h.c = record { place = record { first = h.first.2; second = h.second.2 }; span = h.span } in
      let b : IsSecond m n vs h.a h.b = record { place = record { first = h.first.1; second = h.second.1 }; third = any_from (IsThird m n h.a h.b) vs h.c h.vertices.2 c } in
      let a : IsFirst m n vs h.a = record { place = record { first = h.first.0; second = h.second.0 }; second = any_from (IsSecond m n vs h.a) vs h.b h.vertices.1 b } in
      any_from (IsFirst m n vs) vs h.a h.vertices.0 a

-- all fail: none is there
pub none_from : {X : Type 0} (P : X → Type 0) (xs : List X) → All (λ x. ¬ (P x)) xs → Any P xs → ⊥
none_from P xs h a = All-contains (λ x. ¬ (P x)) xs a.1 h (a.0, a.2, a.3) a.4

-- what the test of tightness says
pub tight_from : (m x : Vector) → is_tight m x ≡ true → IsTight m x
tight_from m x t = (Decides-int_eq (dot m x) (negsuc 0)).0 t
