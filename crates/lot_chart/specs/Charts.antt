-- Curves as a picture, which is an SVG. Lengths are in tenths of its unit; the plot extends horizontally from 1000 to
-- 7700, and vertically from 600 to 4600.
use Rattle.std.specs.Prelude.{ℕ, ◌+◌, ◌-◌, ◌*◌, ◌%◌, min, max, ◌==◌, nat_le, Option, Some, None, List, [], ◌++◌, codes, fold, length, map, slice_index, unwrap_or, if◌then◌else◌}
use Rattle.std.specs.List.{flat_map, range_with_len}
use Rattle.std.specs.Fmt.{decimal}
use Rattle.lot_machine.specs.Numbered.{at_number}
use Rattle.lot_curves.specs.declared.by.By.{By}
use Rattle.lot_curves.specs.declared.by.By.TheVariants.{Thread, Currency}
use Rattle.lot_curves.specs.declared.stretch.Measure.TheVariants.{Ticks}
use Rattle.lot_curves.specs.declared.stretch.Stretch.{Stretch}
use Rattle.lot_curves.specs.Curves.{Curves, sample_count, sample_tick, sample_ticks, total_at}
use Rattle.lot_curves.specs.Stretches.{last_end, stretches_of}
use Rattle.lot_curves.specs.Windows.{had_in}
use Rattle.lot_chart.specs.declared.lines.PlotLine.{PlotLine}
use Rattle.lot_chart.specs.declared.standings.Standing.{Standing}
use Rattle.lot_chart.specs.Axes.{marks, time_marks}
use Rattle.lot_chart.specs.Dues.{Dues, due_height, most_due}
use Rattle.lot_chart.specs.Escapes.{escaped}
use Rattle.lot_chart.specs.Lines.{scaled, height_of, lines_of, most_in}
use Rattle.lot_chart.specs.Marks.{marked}
use Rattle.lot_chart.specs.Shares.{share_of, tenths, whole_at}
use Rattle.lot_chart.specs.Standings.{Selected, selection}

-- the horizontal position of a tick
abbrev pub across : ℕ → ℕ → ℕ
across last tick = 1000 + scaled tick last 6700

-- ---- the frame

-- the part up to the axes: the title, for screen readers and above the plot, on white; the picture is this many units
-- wide
abbrev pub head : ℕ → List ℕ → List ℕ
head width title =
    codes "<svg xmlns='http://www.w3.org/2000/svg' width='" ++ (decimal width ++ (codes "' height='540' viewBox='0 0 " ++ (decimal width
    ++ (codes " 540' role='img' aria-labelledby='title' font-family='sans-serif' font-size='12' fill='#222222'>\n<title id='title'>"
    ++ (escaped title ++ (codes "</title>\n<rect width='" ++ (decimal width
    ++ (codes "' height='540' fill='#ffffff'/>\n<text x='100' y='34' font-size='18'>" ++ (escaped title ++ codes "</text>\n")))))))))

-- the mark of a number of ticks, or of a percentage, on the vertical axis, and a thin line from it across the plot
abbrev pub height_mark : ℕ → ℕ → List ℕ
height_mark most ticks =
    codes "<path d='M100 " ++ (tenths (height_of most ticks) ++ (codes "H770' stroke='#dddddd'/>\n<text x='92' y='"
    ++ (tenths (height_of most ticks) ++ (codes "' dy='4' text-anchor='end'>" ++ (decimal ticks ++ codes "</text>\n")))))

-- the mark of a tick on the time axis; the tick counts from the curves' origin, and its number from tick 0
abbrev pub time_mark : Curves → ℕ → List ℕ
time_mark curves tick =
    codes "<path d='M" ++ (tenths (across (last_end curves.stretches) tick) ++ (codes " 460v5' stroke='#222222'/>\n<text x='"
    ++ (tenths (across (last_end curves.stretches) tick) ++ (codes "' y='480' text-anchor='middle'>" ++ (decimal (curves.origin + tick) ++ codes "</text>\n")))))

-- the mark at the time of a command, a thin line from the top of the plot to its bottom, with a text for the pointer
abbrev pub command_mark : Curves → ℕ → List ℕ
command_mark curves time =
    codes "<path d='M" ++ (tenths (across (last_end curves.stretches) (time - curves.origin))
    ++ (codes " 60V460' stroke='#bbbbbb' stroke-dasharray='3 3'><title>command at " ++ (decimal time ++ codes "</title></path>\n")))

-- the mark of a column, if a command is in it
abbrev pub column_mark : Curves → Option ℕ → List ℕ
column_mark curves None = []
column_mark curves (Some time) = command_mark curves time

-- the marks at the times of commands, one for each column with a command
abbrev pub command_marks : Curves → List ℕ
command_marks curves = flat_map (column_mark curves) (marked curves)

-- the number at the top of the vertical axis: the most ticks of a line, or 100 percent with a window
abbrev pub highest : Option ℕ → ℕ → ℕ
highest None most = most
highest (Some window) most = 100

-- the subject of the lines
abbrev pub lines_label : By → List ℕ
lines_label Thread = codes "what each thread has run"
lines_label Currency = codes "what the threads of each currency have run"

-- the measure of the vertical axis
abbrev pub measure_label : Option ℕ → List ℕ
measure_label None = codes ", in ticks"
measure_label (Some window) = codes " in the last " ++ (decimal window ++ codes " ticks, in percent")

-- the label of the vertical axis
abbrev pub heights_label : By → Option ℕ → List ℕ
heights_label by window = lines_label by ++ measure_label window

-- both axes without marks, and their labels
abbrev pub frame : By → Option ℕ → List ℕ
frame by window =
    codes "<path d='M100 60V460H770' fill='none' stroke='#222222'/>\n<text x='435' y='512' text-anchor='middle'>time, in ticks</text>\n<text transform='translate(14 260) rotate(-90)' text-anchor='middle'>"
    ++ (heights_label by window ++ codes "</text>\n")

-- both axes with their marks, and the marks of commands, given the most ticks of a line
abbrev pub axes : Curves → ℕ → List ℕ
axes curves most =
    flat_map (height_mark (highest curves.window most)) (marks (highest curves.window most))
    ++ (flat_map (time_mark curves) (time_marks curves.origin (last_end curves.stretches)) ++ (command_marks curves ++ frame curves.by curves.window))

-- ---- the lines

-- one of eight colours that all readers can distinguish (Okabe and Ito)
abbrev pub colour : ℕ → List ℕ
colour style =
    if style % 8 == 0 then codes "#0072b2" else if style % 8 == 1 then codes "#d55e00" else if style % 8 == 2 then codes "#009e73" else if style % 8 == 3 then codes "#cc79a7"
    else if style % 8 == 4 then codes "#e69f00" else if style % 8 == 5 then codes "#56b4e9" else if style % 8 == 6 then codes "#000000" else codes "#f0e442"

-- the dash pattern of later lines with a repeated colour
abbrev pub strokes : ℕ → List ℕ
strokes style = if nat_le 8 style then codes " stroke-dasharray='7 4'" else []

-- the ticks at the top of the plot, at this tick: with a window all ticks of the window that ends there, otherwise the
-- most
abbrev pub top_at : Curves → ℕ → ℕ → ℕ
top_at curves most tick = unwrap_or (whole_at Ticks curves tick) most

-- the ticks at the top of the plot at each sample
abbrev pub tops : Curves → ℕ → List ℕ
tops curves most = map (top_at curves most) (sample_ticks (last_end curves.stretches))

-- a point at this tick and height
abbrev pub point_at : Curves → ℕ → ℕ → List ℕ
point_at curves tick height = codes " " ++ (tenths (across (last_end curves.stretches) tick) ++ (codes "," ++ tenths height))

-- the point for the ticks of these stretches at this tick, given the ticks at the top of the plot
abbrev pub point : Curves → ℕ → List Stretch → ℕ → List ℕ
point curves top stretches tick = point_at curves tick (height_of top (had_in Ticks curves.window tick stretches))

-- the point of a sample, given the tops at all samples
abbrev pub sample_point : Curves → List ℕ → List Stretch → ℕ → List ℕ
sample_point curves tops stretches sample =
    point curves (slice_index tops sample) stretches (sample_tick (last_end curves.stretches) sample)

-- a point for each sample
abbrev pub points : Curves → List ℕ → List Stretch → List ℕ
points curves tops stretches =
    flat_map (sample_point curves tops stretches) (range_with_len 0 (sample_count (last_end curves.stretches) + 1))

-- the stretches of a line: those of its thread or currency, or of all threads without a line
abbrev pub drawn_of : Curves → List Stretch → ℕ → List Stretch
drawn_of curves others thread = if thread == 0 then others else stretches_of thread curves.stretches

-- the end of a line after its points: its colour and dash pattern
abbrev pub stroke : ℕ → List ℕ
stroke style = codes "' stroke='" ++ (colour style ++ (codes "'" ++ (strokes style ++ codes "/>\n")))

-- a line, with a point for each sample
abbrev pub curve : Curves → List Stretch → List ℕ → PlotLine → List ℕ
curve curves others tops line = codes "<polyline points='" ++ (points curves tops (drawn_of curves others line.thread) ++ stroke line.style)

-- ---- dues

-- the point of a sample for the due of a line, given the tops at all samples
abbrev pub due_point : Curves → Dues → List Standing → List ℕ → ℕ → ℕ → List ℕ
due_point curves dues shown tops thread sample =
    point_at curves (sample_tick (last_end curves.stretches) sample) (due_height curves (slice_index tops sample) dues shown thread (sample_tick (last_end curves.stretches) sample))

-- a point for each sample
abbrev pub due_points : Curves → Dues → List Standing → List ℕ → ℕ → List ℕ
due_points curves dues shown tops thread =
    flat_map (due_point curves dues shown tops thread) (range_with_len 0 (sample_count (last_end curves.stretches) + 1))

-- the due of a line, as a line of its own in the same colour
abbrev pub due_curve : Curves → Dues → List Standing → List ℕ → PlotLine → List ℕ
due_curve curves dues shown tops line =
    codes "<polyline points='" ++ (due_points curves dues shown tops line.thread ++ stroke line.style)

-- the due of each line, as thin lines; nothing if the program isn't timed
abbrev pub due_curves : Curves → Option Dues → List Standing → List ℕ → List PlotLine → List ℕ
due_curves curves None shown tops lines = []
due_curves curves (Some dues) shown tops lines =
    codes "<g fill='none' stroke-width='1' stroke-opacity='0.5' stroke-linejoin='round'>\n" ++ (flat_map (due_curve curves dues shown tops) lines ++ codes "</g>\n")

-- ---- their names

-- the name of the line's thread or currency; thread 0 stands for the others
abbrev pub name_of : List (List ℕ) → ℕ → List ℕ
name_of names thread = unwrap_or (at_number names thread) (codes "others")

-- the leader from the line's end to its name, in its colour
abbrev pub leader : PlotLine → List ℕ
leader line =
    codes "<path d='M770 " ++ (tenths line.height ++ (codes "L784 " ++ (tenths line.place ++ (codes "' stroke='" ++ (colour line.style ++ codes "'/>\n")))))

-- the line's name, and its share of all ticks
abbrev pub name_text : List (List ℕ) → ℕ → PlotLine → List ℕ
name_text names total line =
    codes "<text x='788' y='" ++ (tenths line.place ++ (codes "' dy='4'>" ++ (escaped (name_of names line.thread) ++ (codes " " ++ (tenths (share_of total line.ticks) ++ codes "%</text>\n")))))

-- the line's leader and name
abbrev pub label : List (List ℕ) → ℕ → PlotLine → List ℕ
label names total line = leader line ++ name_text names total line

-- ---- the picture

-- the ticks of all turns, or of the last window
abbrev pub total : Curves → ℕ
total curves = total_at Ticks curves (last_end curves.stretches)

-- the most ticks at the end of a line, or due to a line if that is more
abbrev pub most_shown : Curves → Option Dues → List Standing → ℕ
most_shown curves dues shown = max (most_in shown) (most_due curves dues shown)

-- the lines of the selected threads or currencies, given the most ticks
abbrev pub lines_in : Curves → ℕ → Selected → List PlotLine
lines_in curves most selected = lines_of (top_at curves most (last_end curves.stretches)) selected.shown

-- the bytes of the longest name beside a line
abbrev pub longest_name : List (List ℕ) → List PlotLine → ℕ
longest_name names lines = fold (λ most line. max (length (name_of names line.thread)) most) 0 lines

-- the width of the picture, in its unit: room for the longest name and its share, and for the title, up to 1040
abbrev pub width_for : ℕ → ℕ → ℕ
width_for name title = min 1040 (max (848 + 12 * name) (110 + 11 * title))

-- the picture with these lines, and their dues behind them, given the most ticks
unfoldable pub picture : List ℕ → Curves → Option Dues → Selected → ℕ → List PlotLine → List ℕ
picture title curves dues selected most lines =
    head (width_for (longest_name curves.names lines) (length title)) title ++ (axes curves most
    ++ (due_curves curves dues selected.shown (tops curves most) lines
    ++ (codes "<g fill='none' stroke-width='2' stroke-linejoin='round'>\n" ++ (flat_map (curve curves selected.others (tops curves most)) lines
    ++ (codes "</g>\n" ++ (flat_map (label curves.names (total curves)) lines ++ codes "</svg>\n"))))))

-- the picture of the curves with this title, and with these dues, if any
abbrev pub chart : List ℕ → Option Dues → Curves → List ℕ
chart title dues curves = scaled_to (most_shown curves dues (selection curves).shown)
  where
    scaled_to : ℕ → List ℕ
    scaled_to most = picture title curves dues (selection curves) most (lines_in curves most (selection curves))
