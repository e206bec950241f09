-- What receipts show, and what a reader takes from a store.
use Rattle.std.specs.Prelude.{◌≡◌, ◌<◌, ◌⊎◌, Bool, List, [], ◌∷◌, ◌++◌, All, AllPairs, Contains, MatchBool, ⊤}
use Rattle.boxcar.specs.Table.{Shelves, Where, Shows}
use Rattle.ntfe_model.specs.Shapes.{Shape}
use Rattle.ntfe_model.specs.Certificates.{IsCertificate}
use Rattle.ntfe_model.specs.Keys.{item_limit}
use Rattle.ntfe_model.specs.declared.nogood.Part.{Part}
use Rattle.ntfe_model.specs.declared.nogood.Nogood.{Nogood}

-- the entry stands in this store
abbrev pub IsReceiptOf : Shelves → Where Nogood → Type 0
IsReceiptOf store receipt = Shows store receipt

-- the places rise
abbrev pub AreRising : List (Where Nogood) → Type 0
AreRising seen = AllPairs (λ v w. v.index < w.index) seen

-- the entry stands behind all that were seen
abbrev pub IsBehind : List (Where Nogood) → Where Nogood → Type 0
IsBehind seen w = All (λ v. v.index < w.index) seen

-- each stands behind all that were seen before it
abbrev pub AreBehind : List (Where Nogood) → List (Where Nogood) → Type 0
AreBehind seen [] = ⊤
AreBehind seen (w ∷ ws) = IsBehind seen w × AreBehind (seen ++ w ∷ []) ws

-- the number of some part is over the item limit
abbrev pub HasFarPart : Shape → Nogood → Type 0
HasFarPart g n = (p : Part) × Contains n.parts p × (item_limit g < p.item)

-- the nogood is no certificate of the geometry, or has a part whose number is over the item limit
abbrev pub MayPassOver : Shape → Nogood → Type 0
MayPassOver g n = (¬ (IsCertificate g n)) ⊎ HasFarPart g n

-- of the entries that were found, these are taken, in order: each is a certificate, and what is passed over may be
abbrev pub AreTaken : Shape → List (Where Nogood) → List Nogood → Type 0
AreTaken g [] taken = taken ≡ []
AreTaken g (w ∷ ws) taken =
    (MayPassOver g w.value × AreTaken g ws taken)
    ⊎ ((rest : List Nogood) × (taken ≡ w.value ∷ rest) × IsCertificate g w.value × AreTaken g ws rest)

-- the reader saw more entries of the store, each behind those before it, and those that are taken from them stand in the set, behind the others
pub record Refreshes (store : Shelves) (g : Shape) (seen : List (Where Nogood)) (set : List Nogood) (seen' : List (Where Nogood)) (set' : List Nogood) : Type 0 where
  pub found : List (Where Nogood)
  pub taken : List Nogood
  pub reader : seen' ≡ seen ++ found
  pub entries : set' ≡ set ++ taken
  pub shown : All (IsReceiptOf store) found
  pub behind : AreBehind seen found
  pub right : AreTaken g found taken

-- the entries that were there stay in front, and each added one is a certificate of the geometry
abbrev pub Adds : Shape → List Nogood → List Nogood → Type 0
Adds g set set' = (more : List Nogood) × (set' ≡ set ++ more) × All (IsCertificate g) more

-- one more entry of the store is seen, and is taken or passed over
abbrev pub Looks : Shelves → Shape → List (Where Nogood) → List Nogood → List (Where Nogood) → List Nogood → Bool → Type 0
Looks store g seen set seen' set' is =
    (w : Where Nogood) × IsReceiptOf store w × IsBehind seen w × (seen' ≡ seen ++ w ∷ [])
    × MatchBool is (IsCertificate g w.value × (set' ≡ set ++ w.value ∷ [])) (MayPassOver g w.value × (set' ≡ set))
