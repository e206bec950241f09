-- From the counting of the demo's classes to what its status says.
use Rattle.std.proofs.Common.{◌≡◌, ◌≢◌, refl, sym, subst, ap, inl, inr, arith, ℕ, ◌+◌, ◌-◌, ◌<◌, ◌≤◌, ◌^◌, min, max, ℤ, pos, ◌≤ℤ◌, List, [], length, Some, None, Result, Ok, Err}
use Rattle.std.specs.Prelude.{Option, codes}
use Rattle.std.proofs.lemmas.Int.{ints}
use Rattle.std.proofs.KnownBytes.{Appends-nil}
use Rattle.io_edge.specs.Changes.{Change}
use Rattle.io_edge.specs.Lines.{WritesText}
use Rattle.io_edge.specs.declared.line_fault.LineFault.{LineFault}
use Rattle.io_edge.specs.declared.line_fault.LineFault.TheVariants as line
use Rattle.ntfe_model.specs.Pairs.{VertexLists}
use Rattle.ntfe_model.specs.Shapes.{Shape}
use Rattle.ntfe_model.specs.Keys.{MayOverflow, MayLimit}
use Rattle.polygon_demo.specs.Limits.{IsSmallPair}
use Rattle.lattice_points.specs.Faults.{HasCause}
use Rattle.lattice_points.specs.declared.fault.PointFault.{PointFault}
use Rattle.lattice_points.specs.declared.fault.PointFault.TheVariants as point
use Rattle.steal_workers.specs.Listings.{Listed, Bytes, TakesAll, TakesDue, TakesBelow, HasServed}
use Rattle.steal_workers.specs.declared.served.Served.{Served}
use Rattle.steal_workers.specs.declared.served.Served.TheVariants as served
use Rattle.ntfe_run.specs.Demo.{IsDemoOf, IsDemoText, demo_limit, demo_text}
use Rattle.ntfe_run.specs.Dues.{demo_listed}
use Rattle.ntfe_run.specs.Commands.{demo_room}
use Rattle.ntfe_run.specs.Rooms.{IsAnswer, IsAnswered, IsReadInput}
use Rattle.ntfe_run.specs.Edges.{Edges}
use Rattle.ntfe_run.specs.Statuses.{status_of_lines, TellsCount, IsDemoEnd}
use Rattle.ntfe_run.specs.declared.status.Status.{Status}
use Rattle.ntfe_run.specs.declared.status.Status.TheVariants.{Done, Usage, Refused, Overflow, Limit, Memory, ReadFault, WriteFault}
use Rattle.ntfe_run.proofs.Answered.{answered, keeps_same}

-- no limit refuses a small pair
pub small_listed : (p : VertexLists) → IsSmallPair p → (fault : PointFault) → HasCause p fault → fault ≢ point.Memory → ⊥
small_listed p small (point.TooWide n) h other =
    let few : pos n ≤ℤ pos 27 = small.columns (pos n) h.are in
    let over : 16777216 < n = h.over in
    omega (arith, ints, few, over)
small_listed p small (point.TooMany n) (columns, h) other =
    let few : length h.points ≤ 81 = small.points h.points h.are in
    let count : n ≡ length h.points = h.count in
    let over : 400 < n = h.over in
    omega (arith, few, count, over)
small_listed p small point.Memory h other = other refl

module _ (number width : ℕ) (g : Shape) where
  abbrev own : Listed
  own = demo_listed width g

  -- ---- what was counted

  pub whole_count : (bytes : Bytes) (count : ℕ) (last : Option (List ℕ)) → TakesAll own bytes count last → IsDemoText number g (demo_text number g count (codes "end") last)
  whole_count bytes count last w = inl record {
    blocks = w.blocks;
    are = w.are;
    few = few;
    is = λ i. demo_text number g (counted i) (codes "end") (w.last_is i);
  }
    where
      few : length w.blocks < demo_limit
      few = let u : 0 + length w.blocks < 1000 = w.under in omega (arith, u)

      counted : count ≡ length w.blocks
      counted = let u : 0 + length w.blocks < 1000 = w.under in let c : count ≡ min (2 ^ 63) (0 + length w.blocks) = w.counted in grind (arith, u, c)

  pub limited_count : (bytes : Bytes) (count : ℕ) (last : Option (List ℕ)) → TakesDue own bytes count last → IsDemoText number g (demo_text number g count (codes "limit") last)
  limited_count bytes count last w = inr record {
    last = last;
    blocks = w.blocks;
    are = w.are;
    last_is = w.last_is;
    count = (let d : length w.blocks ≡ w.limit - 0 = w.due in omega (arith, d, limit));
    is = ap (λ n. demo_text number g n (codes "limit") last) (let c : count ≡ max 0 w.limit = w.counted in let e : count ≡ 1000 = grind (arith, c, limit) in e);
  }
    where
      limit : 1000 ≡ w.limit
      limit = (let e : Some 1000 ≡ Some w.limit = w.limited in cc)

  -- ---- how it ends

  pub lines_end : (text : List ℕ) → IsDemoText number g text → (a b : Option (List ℕ)) (f h : ℕ) (r : Result (Unit {0}) LineFault) → WritesText a b f h r text
      → IsDemoEnd number width g (record { before = a; after = b }) (record { before = f; after = h }) (status_of_lines r)
  lines_end text is a b f h (Ok done) w = record { text = text; is = is; all = w.ok }
  lines_end text is a b f h (Err line.Write) w = (record { text = text; is = is; prefix = w.err }, w.cause refl)
  lines_end text is a b f h (Err line.Memory) w = inr record { text = text; is = is; prefix = w.err }

  module _ (bytes : Bytes) (a : Option (List ℕ)) (f : ℕ) where
    pub wide_end : (choice : List ℕ) (step : ℕ) (n : ℤ) → MayOverflow g None width choice step n × TakesBelow own bytes choice
        → IsDemoEnd number width g (record { before = a; after = a }) (record { before = f; after = f }) (Overflow choice step n)
    wide_end choice step n (may, w) = record { text = []; is = (may, record { blocks = w.blocks; are = w.are; few = (let u : 0 + length w.blocks < 1000 = w.under in omega (arith, u)); nothing = refl }); all = Appends-nil a }

    pub far_end : (face : ℕ) → (key : List ℕ) × MayLimit g None width face key × TakesBelow own bytes key
        → IsDemoEnd number width g (record { before = a; after = a }) (record { before = f; after = f }) (Limit face)
    far_end face (key, may, w) = record { text = []; is = (key, may, record { blocks = w.blocks; are = w.are; few = (let u : 0 + length w.blocks < 1000 = w.under in omega (arith, u)); nothing = refl }); all = Appends-nil a }

  -- what was told of a count that ends so
  pub told_end : (a b : Option (List ℕ)) (f h : ℕ) (s : Served) → HasServed own (record { before = None; after = None }) s → s ≢ served.WriteFault
      → (status : Status) → TellsCount number g s (record { before = a; after = b }) (record { before = f; after = h }) status → IsDemoEnd number width g (record { before = a; after = b }) (record { before = f; after = h }) status
  told_end a b f h (served.End count last) w takes status (r, e, wrote) =
      subst (IsDemoEnd number width g (record { before = a; after = b }) (record { before = f; after = h })) (sym e) (lines_end (demo_text number g count (codes "end") last) (whole_count (record { before = None; after = None }) count last w) a b f h r wrote)
  told_end a b f h (served.Limit count last) w takes status (r, e, wrote) =
      subst (IsDemoEnd number width g (record { before = a; after = b }) (record { before = f; after = h })) (sym e) (lines_end (demo_text number g count (codes "limit") last) (limited_count (record { before = None; after = None }) count last w) a b f h r wrote)
  told_end a b f h (served.Wide choice step n) w takes status (e, t, u) =
      subst (λ (x : Option (List ℕ) × ℕ × Status). IsDemoEnd number width g (record { before = a; after = x.0 }) (record { before = f; after = x.1 }) x.2) (λ j. (sym t j, sym u j, sym e j))
      (wide_end (record { before = None; after = None }) a f choice step n w)
  told_end a b f h (served.Far face) w takes status (e, t, u) =
      subst (λ (x : Option (List ℕ) × ℕ × Status). IsDemoEnd number width g (record { before = a; after = x.0 }) (record { before = f; after = x.1 }) x.2) (λ j. (sym t j, sym u j, sym e j))
      (far_end (record { before = None; after = None }) a f face w)
  told_end a b f h served.WriteFault w takes status k = absurd (takes refl)
  told_end a b f h served.Memory w takes status (e, t, u) =
      subst (λ (x : Option (List ℕ) × ℕ × Status). IsDemoEnd number width g (record { before = a; after = x.0 }) (record { before = f; after = x.1 }) x.2) (λ j. (sym t j, sym u j, sym e j)) (inl (keeps_same a))

  -- ---- what the status says

  module _ (is : IsDemoOf number g) (left : Option (List ℕ)) (reads : ℕ) (taken : Change (Option (List ℕ))) (faults : Change ℕ) where
    abbrev edges : Edges
    edges = record { left = record { before = left; after = left }; read_faults = record { before = reads; after = reads }; taken = taken; write_faults = faults }

    read : IsReadInput (demo_room number width) edges g
    read = (record { left = refl; faults = refl }, is)

    by_answer : (s : Status) → IsAnswer (demo_room number width) g taken faults s → IsAnswered (demo_room number width) edges s
    by_answer s h = answered (demo_room number width) g edges s read h

    pub demo_answered : (s : Status) → IsDemoEnd number width g taken faults s → IsAnswered (demo_room number width) edges s
    demo_answered Memory (inl kept) = record { cause = tt; text = inl kept }
    demo_answered Memory (inr takes) = by_answer Memory takes
    demo_answered Done h = by_answer Done h
    demo_answered Usage h = by_answer Usage h
    demo_answered (Refused refusal) h = by_answer (Refused refusal) h
    demo_answered (Overflow choice step n) h = by_answer (Overflow choice step n) h
    demo_answered (Limit face) h = by_answer (Limit face) h
    demo_answered ReadFault h = by_answer ReadFault h
    demo_answered WriteFault h = by_answer WriteFault h
