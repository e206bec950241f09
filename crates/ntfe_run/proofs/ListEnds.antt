-- The text of a list, from its head to its end or to where it stops.
use Rattle.std.proofs.Common.{◌≡◌, inl, inr, refl, sym, ap, ◌∙◌, subst, arith, ℕ, ◌+◌, ◌≤◌, List, [], ◌++◌, length, flat_map, Some, None, Result, Ok, Err}
use Rattle.std.specs.Prelude.{Option, OnOk, OnErr}
use Rattle.std.specs.Io.KnownBytes.{Appends}
use Rattle.std.proofs.KnownBytes.{Appends-trans}
use Rattle.io_edge.specs.Causes.{AppendsPrefix, Rose}
use Rattle.io_edge.specs.Lines.{WritesText}
use Rattle.io_edge.specs.declared.line_fault.LineFault.{LineFault}
use Rattle.io_edge.specs.declared.line_fault.LineFault.TheVariants as line
use Rattle.io_edge.proofs.Pieces.{prefix_next, prefix_more}
use Rattle.io_edge.specs.Changes.{Change}
use Rattle.ntfe_model.specs.Shapes.{Shape, IsShape}
use Rattle.ntfe_words.specs.declared.command.Options.{Options}
use Rattle.ntfe_model.specs.RunText.{Block, Kept, nothing_kept, IsTextOf, IsUnderLimit, IsStoppedText, text_without_limit, block_text, end_line, limit_line}
use Rattle.steal_workers.specs.Listings.{Listed, AreBlocksTo, IsWithinLimit, HasServed, TakesAll, TakesDue, TakesBelow, TakesPart}
use Rattle.steal_workers.specs.declared.served.Served.{Served}
use Rattle.steal_workers.specs.declared.served.Served.TheVariants as served
use Rattle.steal_workers.proofs.NextBlocks.{no_blocks}
use Rattle.ntfe_run.proofs.Beginnings.{first_begin}
use Rattle.ntfe_run.specs.Rooms.{Takes, IsAnswer}
use Rattle.ntfe_run.specs.Commands.{IsListText, listed_with, classes_room, resume_room}
use Rattle.ntfe_run.specs.Earlier.{Begun}
use Rattle.ntfe_run.specs.Statuses.{kept_of, head_of, TakesBeginning, IsListEnd, WritesLine, WritesLast, status_of_lines, status_of_end}
use Rattle.ntfe_run.specs.declared.status.Status.{Status}
use Rattle.ntfe_run.specs.declared.status.Status.TheVariants.{Done, Usage, Refused, Overflow, Limit, Memory, ReadFault, WriteFault}

pub rose_later : (e f g : ℕ) → e ≤ f → Rose f g → Rose e g
rose_later e f g l r = grind (arith, l, r)

pub none_within : (limit : Option ℕ) (kept : ℕ) → IsWithinLimit limit kept 0
none_within None kept = tt
none_within (Some n) kept = omega arith

text_of : (l : Listed) (bytes : ℕ) (bs : List Block) (text : List ℕ) → IsUnderLimit l.limit (l.kept + length bs) → text ≡ text_without_limit l.geometry.pair l.form (kept_of l bytes) bs
    → IsTextOf l.geometry.pair l.form (kept_of l bytes) l.limit bs text
text_of l bytes bs text under e = by l.limit under
  where
    by : (limit : Option ℕ) → IsUnderLimit limit (l.kept + length bs) → IsTextOf l.geometry.pair l.form (kept_of l bytes) limit bs text
    by None u = e
    by (Some n) u = inl (u, e)

module _ (l : Listed) (bytes : ℕ) where
  abbrev head : List ℕ
  head = head_of l bytes

  abbrev kept : Kept
  kept = kept_of l bytes

  -- a text that stops in the head, or in the first blocks
  begun : (a b last : Option (List ℕ)) (bs : List Block) → AreBlocksTo l last bs → IsWithinLimit l.limit l.kept (length bs) → AppendsPrefix a b (head ++ flat_map block_text bs) → TakesBeginning l bytes (record { before = a; after = b })
  begun a b last bs are within p s =
      let t = first_begin l.geometry s l.form kept l.limit last bs are within in record { text = head ++ flat_map block_text bs ++ t.0; is = inl t.1; prefix = prefix_more a b (head ++ flat_map block_text bs) t.0 p }

  pub head_begun : (a b : Option (List ℕ)) → AppendsPrefix a b head → TakesBeginning l bytes (record { before = a; after = b })
  head_begun a b h = begun a b l.start [] (no_blocks l) (none_within l.limit l.kept) (prefix_more a b head [] h)

  -- a head that was not written to its end
  head_end : (a b : Option (List ℕ)) (f h : ℕ) (fault : LineFault) → AppendsPrefix a b head → (fault ≡ line.Write → Rose f h) → IsListEnd l bytes (record { before = a; after = b }) (record { before = f; after = h }) (status_of_lines (Err fault))
  head_end a b f h line.Write p cause = (head_begun a b p, cause refl)
  head_end a b f h line.Memory p cause = head_begun a b p

  pub head_failed : (a b : Option (List ℕ)) (f h : ℕ) (r : Result (Unit {0}) LineFault) (fault : LineFault) (text : List ℕ) → r ≡ Err fault → text ≡ head → WritesText a b f h r text
      → IsListEnd l bytes (record { before = a; after = b }) (record { before = f; after = h }) (status_of_lines (Err fault))
  head_failed a b f h r fault text e same w =
      head_end a b f h fault (subst (λ (t : List ℕ). AppendsPrefix a b t) same (subst (λ (x : Result (Unit {0}) LineFault). OnErr x (AppendsPrefix a b text)) e w.err)) (λ q. w.cause (e ∙ ap (λ d. Err d) q))

  pub head_written : (a b : Option (List ℕ)) (f h : ℕ) (r : Result (Unit {0}) LineFault) (u : Unit {0}) (text : List ℕ) → r ≡ Ok u → text ≡ head → WritesText a b f h r text → Appends a b head
  head_written a b f h r u text e same w = subst (λ (t : List ℕ). Appends a b t) same (subst (λ (x : Result (Unit {0}) LineFault). OnOk x (Appends a b text)) e w.ok)

  module _ (a b c : Option (List ℕ)) (took : Appends a b head) where
    -- a text that stops in a block
    part_begun : TakesPart l (record { before = b; after = c }) → TakesBeginning l bytes (record { before = a; after = c })
    part_begun w = begun a c w.last w.blocks w.are w.within (prefix_next a b c head (flat_map block_text w.blocks) took w.took)

    stopped : (bound : List ℕ) → TakesBelow l (record { before = b; after = c }) bound → (text : List ℕ) × IsStoppedText l.geometry l.form kept l.limit bound text × Appends a c text
    stopped bound w = (
      head ++ flat_map block_text w.blocks,
      record { blocks = w.blocks; are = w.are; under_limit = w.under; is = refl },
      Appends-trans a b c head (flat_map block_text w.blocks) took w.took,
    )

    -- ---- the last line

    module _ (news : List Block) (wrote : Appends b c (flat_map block_text news)) (last : List ℕ) (d : Option (List ℕ)) where
      abbrev whole : List ℕ
      whole = head ++ flat_map block_text news ++ last

      body : Appends a c (head ++ flat_map block_text news)
      body = Appends-trans a b c head (flat_map block_text news) took wrote

      line_done : IsListText l kept whole → Appends c d last → Takes (IsListText l kept) (record { before = a; after = d })
      line_done is e = record { text = whole; is = is; all = Appends-trans a c d (head ++ flat_map block_text news) last body e }

      line_begun : IsListText l kept whole → AppendsPrefix c d last → TakesBeginning l bytes (record { before = a; after = d })
      line_begun is e s = record { text = whole; is = is; prefix = prefix_next a c d (head ++ flat_map block_text news) last body e }

      pub line_end : (f h i : ℕ) → f ≤ h → IsListText l kept whole → (r : Result (Unit {0}) LineFault) → WritesText c d h i r last → IsListEnd l bytes (record { before = a; after = d }) (record { before = f; after = i }) (status_of_lines r)
      line_end f h i low is (Ok done) w = line_done is w.ok
      line_end f h i low is (Err line.Write) w = (line_begun is w.err, rose_later f h i low (w.cause refl))
      line_end f h i low is (Err line.Memory) w = line_begun is w.err

  -- ---- the end of a list

  module _ (a b c d : Option (List ℕ)) (took : Appends a b head) (f h i : ℕ) (low : f ≤ h) where
    as_status : (s t : Status) → s ≡ t → IsListEnd l bytes (record { before = a; after = d }) (record { before = f; after = i }) t → IsListEnd l bytes (record { before = a; after = d }) (record { before = f; after = i }) s
    as_status s t e k = subst (IsListEnd l bytes (record { before = a; after = d }) (record { before = f; after = i })) (sym e) k

    all_end : (count : ℕ) (last : Option (List ℕ)) → TakesAll l (record { before = b; after = c }) count last → (status : Status) → WritesLine (end_line count) (record { before = c; after = d }) (record { before = h; after = i }) status
        → IsListEnd l bytes (record { before = a; after = d }) (record { before = f; after = i }) status
    all_end count last w status (r, e, wrote) = as_status status (status_of_lines r) e (line_end a b c took w.blocks w.took (end_line count) d f h i low (inl run) r wrote)
      where
        is : head ++ flat_map block_text w.blocks ++ end_line count ≡ text_without_limit l.geometry.pair l.form kept w.blocks
        is = ap (λ n. head ++ flat_map block_text w.blocks ++ end_line n) w.counted

        run : Rattle.ntfe_model.specs.RunText.IsRunText l.geometry l.form kept l.limit (head ++ flat_map block_text w.blocks ++ end_line count)
        run = record { blocks = w.blocks; are = w.are; is = text_of l bytes w.blocks _ w.under is }

    due_end : (count : ℕ) (last : Option (List ℕ)) → TakesDue l (record { before = b; after = c }) count last → (status : Status) → WritesLine (limit_line count) (record { before = c; after = d }) (record { before = h; after = i }) status
        → IsListEnd l bytes (record { before = a; after = d }) (record { before = f; after = i }) status
    due_end count last w status (r, e, wrote) = as_status status (status_of_lines r) e (line_end a b c took w.blocks w.took (limit_line count) d f h i low (inr due) r wrote)
      where
        due : Rattle.ntfe_run.specs.Commands.IsDueText l kept (head ++ flat_map block_text w.blocks ++ limit_line count)
        due = record {
          limit = w.limit;
          limited = w.limited;
          last = last;
          blocks = w.blocks;
          are = w.are;
          due = w.due;
          is = ap (λ n. head ++ flat_map block_text w.blocks ++ limit_line n) w.counted;
        }

    -- where no line was written, the sink is as it was
    as_it_was : (s : Served) (status : Status) → IsListEnd l bytes (record { before = a; after = c }) (record { before = f; after = h }) (status_of_end s) → (status ≡ status_of_end s) × (d ≡ c) × (i ≡ h)
        → IsListEnd l bytes (record { before = a; after = d }) (record { before = f; after = i }) status
    as_it_was s status k (e, same, still) =
        subst (λ (x : Option (List ℕ) × ℕ × Status). IsListEnd l bytes (record { before = a; after = x.0 }) (record { before = f; after = x.1 }) x.2) (λ j. (sym same j, sym still j, sym e j)) k

    pub served_end : (s : Served) → HasServed l (record { before = b; after = c }) s → (s ≡ served.WriteFault → Rose f h) → (status : Status) → WritesLast s (record { before = c; after = d }) (record { before = h; after = i }) status
        → IsListEnd l bytes (record { before = a; after = d }) (record { before = f; after = i }) status
    served_end (served.End count last) w cause status k = all_end count last w status k
    served_end (served.Limit count last) w cause status k = due_end count last w status k
    served_end (served.Wide choice step number) (may, w) cause status k =
        let t = stopped a b c took choice w in
        as_it_was (served.Wide choice step number) status record { text = t.0; is = (may, t.1); all = t.2 } k
    served_end (served.Far face) (key, may, w) cause status k =
        let t = stopped a b c took key w in
        as_it_was (served.Far face) status record { text = t.0; is = (key, may, t.1); all = t.2 } k
    served_end served.WriteFault w cause status k = as_it_was served.WriteFault status (part_begun a b c took w, cause refl) k
    served_end served.Memory w cause status k = as_it_was served.Memory status (part_begun a b c took w) k

-- ---- from a list to the answer of a command

pub list_answer : (o : Options) (g : Shape) → IsShape g → (taken : Change (Option (List ℕ))) (faults : Change ℕ) (status : Status) → IsListEnd (listed_with o g nothing_kept) 0 taken faults status → IsAnswer (classes_room o) g taken faults status
list_answer o g s taken faults Done h = h
list_answer o g s taken faults Memory h = h s
list_answer o g s taken faults WriteFault h = (h.0 s, h.1)
list_answer o g s taken faults (Overflow choice step number) h = h
list_answer o g s taken faults (Limit face) h = h
list_answer o g s taken faults Usage h = h
list_answer o g s taken faults (Refused refusal) h = h
list_answer o g s taken faults ReadFault h = h

pub rest_answer : (o : Options) (i : Begun) → IsShape i.geometry → (taken : Change (Option (List ℕ))) (faults : Change ℕ) (status : Status) → IsListEnd (listed_with o i.geometry i.kept) i.kept.bytes taken faults status → IsAnswer (resume_room o) i taken faults status
rest_answer o i s taken faults Done h = h
rest_answer o i s taken faults Memory h = h s
rest_answer o i s taken faults WriteFault h = (h.0 s, h.1)
rest_answer o i s taken faults (Overflow choice step number) h = h
rest_answer o i s taken faults (Limit face) h = h
rest_answer o i s taken faults Usage h = h
rest_answer o i s taken faults (Refused refusal) h = h
rest_answer o i s taken faults ReadFault h = h
