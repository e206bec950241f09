-- The line that tells of each answer; none tells of `Done`.
use Rattle.std.specs.Prelude.{ℕ, ℤ, true, false, List, [], ◌++◌, codes, decimal, flat_map, Option}
use Rattle.std.specs.Fmt.{signed_decimal}
use Rattle.std.specs.Io.KnownBytes.{Appends}
use Rattle.io_edge.specs.Causes.{Rose, AppendsPrefix}
use Rattle.io_edge.specs.Changes.{Change}
use Rattle.ntfe_model.specs.RunText.{spaced}
use Rattle.ntfe_model.specs.declared.book.TheConstants.{ITEM_LIMIT}
use Rattle.pair_text.specs.declared.fault.TextFault.{TextFault}
use Rattle.pair_text.specs.declared.fault.TextFault.TheVariants as text
use Rattle.reflexive_pair.specs.declared.fault.PairFault.{PairFault}
use Rattle.reflexive_pair.specs.declared.fault.PairFault.TheVariants as pair
use Rattle.lattice_points.specs.declared.fault.PointFault.{PointFault}
use Rattle.lattice_points.specs.declared.fault.PointFault.TheVariants as point
use Rattle.class_text.specs.declared.earlier_fault.EarlierFault.{EarlierFault}
use Rattle.class_text.specs.declared.earlier_fault.EarlierFault.TheVariants as earlier
use Rattle.ntfe_run.specs.declared.status.Refusal.{Refusal}
use Rattle.ntfe_run.specs.declared.status.Refusal.TheVariants.{Size, NoOutput, Text, Pair, Points, Earlier}
use Rattle.ntfe_run.specs.declared.status.Status.{Status}
use Rattle.ntfe_run.specs.declared.status.Status.TheVariants.{Done, Usage, Refused, Overflow, Limit, Memory, ReadFault, WriteFault}

-- `line L` and what is wrong with it
abbrev pub line_message : ℕ → List ℕ → List ℕ
line_message number what = codes "line " ++ (decimal number ++ what)

abbrev pub out_of_memory : List ℕ
out_of_memory = codes "out of memory"

abbrev pub text_message : TextFault → List ℕ
text_message (text.BadLine line) = line_message line (codes ": bad line")
text_message (text.BadNumber line) = line_message line (codes ": bad number")
text_message (text.TooLarge line) = line_message line (codes ": number too large")
text_message (text.Count line) = line_message line (codes ": count not from 5 to 64")
text_message (text.Long line) = line_message line (codes ": input goes on")
text_message text.Short = codes "input ends early"
text_message text.Memory = out_of_memory

-- two entries of a list are equal
abbrev pub equal_message : List ℕ → ℕ → ℕ → List ℕ
equal_message list i j = list ++ (decimal i ++ (codes " and " ++ (decimal j ++ codes " are equal")))

abbrev pub pair_message : PairFault → List ℕ
pair_message (pair.Repeated false i j) = equal_message (codes "vertices ") i j
pair_message (pair.Repeated true i j) = equal_message (codes "dual vertices ") i j
pair_message (pair.Below vertex facet product) =
    codes "vertex " ++ (decimal vertex ++ (codes " with dual vertex " ++ (decimal facet ++ (codes " gives " ++ signed_decimal product))))
pair_message (pair.NotFacet facet) = codes "dual vertex " ++ (decimal facet ++ codes " is no facet")
pair_message (pair.NotVertex vertex) = codes "vertex " ++ (decimal vertex ++ codes " is no vertex")
pair_message (pair.OtherFacet i j k l) =
    codes "vertices " ++ (decimal i ++ (codes " " ++ (decimal j ++ (codes " " ++ (decimal k ++ (codes " " ++ (decimal l ++ codes " span another facet")))))))

abbrev pub point_message : PointFault → List ℕ
point_message (point.TooWide columns) = codes "box of " ++ (decimal columns ++ codes " columns")
point_message (point.TooMany count) = decimal count ++ codes " points"
point_message point.Memory = out_of_memory

-- `earlier output line L` and what is wrong with it
abbrev pub earlier_line_message : ℕ → List ℕ → List ℕ
earlier_line_message number what = codes "earlier output line " ++ (decimal number ++ what)

abbrev pub earlier_message : EarlierFault → List ℕ
earlier_message (earlier.Head line) = earlier_line_message line (codes ": head differs")
earlier_message (earlier.Body line) = earlier_line_message line (codes ": not in place")
earlier_message earlier.Memory = out_of_memory

abbrev pub refusal_message : Refusal → List ℕ
refusal_message (Size limit) = codes "input over " ++ (decimal limit ++ codes " bytes")
refusal_message NoOutput = codes "no output line"
refusal_message (Text fault) = text_message fault
refusal_message (Pair fault) = pair_message fault
refusal_message (Points fault) = point_message fault
refusal_message (Earlier fault) = earlier_message fault

-- the numbers, one space before each
abbrev pub spaced_numbers : List ℕ → List ℕ
spaced_numbers ns = flat_map (λ n. spaced (decimal n)) ns

abbrev pub overflow_head : ℕ → ℤ → List ℕ
overflow_head step number = codes "overflow at step " ++ (decimal step ++ (codes " with " ++ (signed_decimal number ++ codes " in choice")))

abbrev pub overflow_message : List ℕ → ℕ → ℤ → List ℕ
overflow_message choice step number = overflow_head step number ++ spaced_numbers choice

abbrev pub limit_message : ℕ → List ℕ
limit_message face = codes "face " ++ (decimal face ++ (codes " has more than " ++ (decimal ITEM_LIMIT ++ codes " items")))

-- what tells of an answer other than `Done`
abbrev pub answer_message : Status → List ℕ
answer_message Done = []
answer_message Usage = codes "usage: classes, resume, faces or demo N, with --workers, --limit, --width, --push, --stars"
answer_message (Refused refusal) = refusal_message refusal
answer_message (Overflow choice step number) = overflow_message choice step number
answer_message (Limit face) = limit_message face
answer_message Memory = out_of_memory
answer_message ReadFault = codes "read failed"
answer_message WriteFault = codes "write failed"

-- the line, with its line feed
abbrev pub message_line : Status → List ℕ
message_line Done = []
message_line status = codes "ntfe: " ++ (answer_message status ++ codes "\n")

-- A prefix of the line was taken, and all of it where the count of faults did not rise
pub record TellsMessage (taken : Change (Option (List ℕ))) (faults : Change ℕ) (text : List ℕ) : Type 0 where
  pub prefix : AppendsPrefix taken.before taken.after text
  pub whole : ¬ (Rose faults.before faults.after) → Appends taken.before taken.after text
