-- The statistics file: the text form of Prometheus (version 0.0.4).
use Rattle.std.specs.Prelude.{◌≡◌, ℕ, ◌-◌, ◌*◌, ◌/◌, ◌%◌, ◌^◌, Bool, true, not, ◌==◌, List, [], ◌∷◌, ◌++◌, length, replicate, map, flat_map, codes, unsigned_abs, Option, Some, option_map}
use Rattle.std.specs.{Fmt.decimal, Fmt.sign_text, Int.from_bool, Int.is_negative, List.list_all, Option.option_map_or}
use Rattle.std.specs.{Str.bytes_eq, Io.KnownBytes.Appends}
use Rattle.ntp_packet.specs.declared.stamp.Short.{Short}
use Rattle.ntp_admin.specs.Answers.{line_feed}
use Rattle.ntp_client.specs.declared.doubt.Doubt.TheVariants.{Old, Unsynchronised, ReferenceOld, ReferenceAhead, Far, Set}
use Rattle.ntp_reports.specs.{declared.kind.Kind.Kind, declared.counts.Counts.Counts, Counted.count_at}
use Rattle.ntp_reports.specs.declared.kind.Kind.TheVariants as kind
use Rattle.ntp_reports.specs.declared.statistics.{Belief.Belief, FileGauges.FileGauges, Gauges.Gauges, Metric.Metric, Samples.Samples}
use Rattle.ntp_reports.specs.declared.statistics.Belief.TheVariants.{Believed, Fixed, NoAnswer, Doubted}
use Rattle.ntp_reports.specs.declared.statistics.Samples.TheVariants.{Number, Seconds, SignedSeconds}
use Rattle.ntp_reports.specs.declared.statistics.Samples.TheVariants as samples

-- nanoseconds as seconds: a decimal with nine places
abbrev pub nine_digits : ℕ → List ℕ
nine_digits n = replicate (9 - length (decimal n)) 48 ++ decimal n

abbrev pub seconds_text : ℕ → List ℕ
seconds_text nanos = decimal (nanos / 10 ^ 9) ++ codes "." ++ nine_digits (nanos % 10 ^ 9)

-- the line of a sample, with its metric's name
abbrev pub sample : List ℕ → List ℕ → List ℕ
sample name value = name ++ codes " " ++ value ++ line_feed

-- the line of a sample that has a label: the label's key, its word, and a number
abbrev pub labelled : List ℕ → List ℕ × List ℕ × ℕ → List ℕ
labelled name s = sample (name ++ codes "{" ++ s.0 ++ codes "=\"" ++ s.1 ++ codes "\"}") (decimal s.2)

-- the counts of kinds, each with its word
abbrev pub counted : Counts → List ℕ → List (Kind × List ℕ) → List (List ℕ × List ℕ × ℕ)
counted counts key kinds = map (λ k. (key, k.1, count_at counts k.0)) kinds

-- the answers to datagrams
unfoldable pub answers : Counts → List (List ℕ × List ℕ × ℕ)
answers counts = counted counts (codes "answer=\"time\",mode") ((kind.Basic, codes "basic") ∷ (kind.Interleaved, codes "interleaved") ∷ [])
    ++ counted counts (codes "answer") ((kind.Rate, codes "rate") ∷ (kind.Deny, codes "deny") ∷ (kind.Nak, codes "nak") ∷ [])
    ++ counted counts (codes "answer=\"silent\",reason")
    ((kind.Unregistered, codes "unregistered") ∷ (kind.Short, codes "short") ∷ (kind.Long, codes "long")
    ∷ (kind.FieldShort, codes "field-short") ∷ (kind.FieldUnaligned, codes "field-unaligned")
    ∷ (kind.FieldPastEnd, codes "field-past-end") ∷ (kind.Rest, codes "rest") ∷ (kind.Version, codes "version")
    ∷ (kind.Mode, codes "mode") ∷ (kind.Bare, codes "bare") ∷ (kind.Muted, codes "muted") ∷ (kind.OverBudget, codes "over-budget") ∷ [])

-- what became of lines of commands
unfoldable pub commands : Counts → List (List ℕ × List ℕ × ℕ)
commands counts = counted counts (codes "answer") ((kind.Done, codes "done") ∷ []) ++ counted counts (codes "answer=\"refused\",reason")
    ((kind.AlreadyEnrolled, codes "already-enrolled") ∷ (kind.KeyTaken, codes "key-taken") ∷ (kind.NoMemory, codes "no-memory")
    ∷ (kind.NotEnrolled, codes "not-enrolled") ∷ (kind.SameNumber, codes "same-number") ∷ (kind.RoomFull, codes "room-full")
    ∷ (kind.OnlyKey, codes "only-key") ∷ (kind.NotHeld, codes "not-held") ∷ []) ++ counted counts (codes "answer") ((kind.Faulty, codes "faulty") ∷ [])

-- the word of a belief
abbrev pub belief_word : Belief → List ℕ
belief_word Believed = codes "believed"
belief_word Fixed = codes "fixed"
belief_word NoAnswer = codes "no-answer"
belief_word (Doubted Old) = codes "old"
belief_word (Doubted Unsynchronised) = codes "unsynchronised"
belief_word (Doubted ReferenceOld) = codes "reference-old"
belief_word (Doubted ReferenceAhead) = codes "reference-ahead"
belief_word (Doubted Far) = codes "far"
belief_word (Doubted Set) = codes "set"

-- the beliefs, with 1 at the word of the one that there is
unfoldable pub beliefs : Belief → List (List ℕ × List ℕ × ℕ)
beliefs belief = map (λ each. (codes "why", belief_word each, from_bool (bytes_eq (belief_word each) (belief_word belief))))
    (Believed ∷ Fixed ∷ NoAnswer ∷ Doubted Old ∷ Doubted Unsynchronised ∷ Doubted ReferenceOld ∷ Doubted ReferenceAhead
    ∷ Doubted Far ∷ Doubted Set ∷ [])

-- the files, with 1 at those that can be read or written
unfoldable pub files_ok : FileGauges → List (List ℕ × List ℕ × ℕ)
files_ok files = map (λ (file : List ℕ × Bool). (codes "file", file.0, from_bool file.1)) ((codes "commands", files.commands)
    ∷ (codes "answers", files.answers) ∷ (codes "statistics", files.statistics) ∷ (codes "customers", files.customers) ∷ [])

-- the samples of the metric with a name: a time that there is not is `NaN`
abbrev pub samples_text : Counts → List ℕ → Samples → List ℕ
samples_text counts name (Number n) = sample name (decimal n)
samples_text counts name (Seconds nanos) = sample name (option_map_or seconds_text nanos (codes "NaN"))
samples_text counts name (SignedSeconds nanos) =
    sample name (option_map_or (λ n. sign_text (is_negative n) ++ seconds_text (unsigned_abs n)) nanos (codes "NaN"))
samples_text counts name samples.Answers = flat_map (labelled name) (answers counts)
samples_text counts name samples.Commands = flat_map (labelled name) (commands counts)
samples_text counts name (samples.Belief belief) = flat_map (labelled name) (beliefs belief)
samples_text counts name (samples.Files files) = flat_map (labelled name) (files_ok files)
samples_text counts name (samples.Version version) = flat_map (labelled name) ((codes "version", version.now, 1) ∷ [])

-- the lines of a metric: its help, its type and its samples
abbrev pub metric_text : Counts → Metric → List ℕ
metric_text counts metric = codes "# HELP " ++ metric.name.now ++ codes " " ++ metric.help.now ++ line_feed
    ++ codes "# TYPE " ++ metric.name.now ++ codes " " ++ metric.sort.now ++ line_feed
    ++ samples_text counts metric.name.now metric.samples

-- a time in the short format in nanoseconds, rounded down
abbrev pub short_nanos : Short → ℕ
short_nanos short = short.0 * 10 ^ 9 / 2 ^ 16

-- a row for each metric, in the order of the file: its type, its name and its samples
abbrev pub rows : Counts → Gauges → List (List ℕ × List ℕ × Samples)
rows counts gauges =
    (codes "counter", codes "labntp_answers_total", samples.Answers)
    ∷ (codes "counter", codes "labntp_receive_failures_total", Number (count_at counts kind.NothingReceived))
    ∷ (codes "counter", codes "labntp_send_failures_total", Number (count_at counts kind.NotSent))
    ∷ (codes "counter", codes "labntp_stale_total", Number gauges.stale)
    ∷ (codes "counter", codes "labntp_kernel_drops_total", Number gauges.kernel_drops)
    ∷ (codes "counter", codes "labntp_departures_noted_total", Number (count_at counts kind.Noted))
    ∷ (codes "gauge", codes "labntp_receive_buffer_octets", Number gauges.receive_buffer)
    ∷ (codes "gauge", codes "labntp_queue_wait_seconds", Seconds gauges.queue_wait)
    ∷ (codes "counter", codes "labntp_send_would_wait_total", Number gauges.send_would_wait)
    ∷ (codes "counter", codes "labntp_sweeps_total", Number gauges.sweeps)
    ∷ (codes "counter", codes "labntp_commands_total", samples.Commands)
    ∷ (codes "gauge", codes "labntp_commands_lines", Number gauges.commands_lines)
    ∷ (codes "gauge", codes "labntp_commands_octets", Number gauges.commands_octets)
    ∷ (codes "gauge", codes "labntp_commands_changed", Number (from_bool gauges.commands_changed))
    ∷ (codes "gauge", codes "labntp_customers", Number gauges.customers)
    ∷ (codes "gauge", codes "labntp_clock_synchronised", Number (from_bool gauges.clock.is_synchronised))
    ∷ (codes "gauge", codes "labntp_clock_age_seconds", Seconds gauges.clock.age)
    ∷ (codes "gauge", codes "labntp_clock_stratum", Number gauges.clock.stratum)
    ∷ (codes "gauge", codes "labntp_clock_leap", Number gauges.clock.leap)
    ∷ (codes "gauge", codes "labntp_clock_root_delay_seconds", Seconds (Some (short_nanos gauges.clock.root_delay)))
    ∷ (codes "gauge", codes "labntp_clock_root_dispersion_seconds", Seconds (Some (short_nanos gauges.clock.root_dispersion)))
    ∷ (codes "gauge", codes "labntp_clock_offset_seconds", SignedSeconds gauges.clock.offset)
    ∷ (codes "gauge", codes "labntp_clock_reference_age_seconds", SignedSeconds gauges.clock.reference_age)
    ∷ (codes "gauge", codes "labntp_clock_most_reference_age_seconds", Seconds gauges.clock.most_reference_age)
    ∷ (codes "gauge", codes "labntp_clock_root_distance_seconds", Seconds gauges.clock.root_distance)
    ∷ (codes "gauge", codes "labntp_clock_most_root_distance_seconds", Seconds (option_map short_nanos gauges.clock.most_root_distance))
    ∷ (codes "gauge", codes "labntp_clock_believed", samples.Belief gauges.clock.belief)
    ∷ (codes "counter", codes "labntp_log_lines_dropped_total", Number gauges.log_lines_dropped)
    ∷ (codes "counter", codes "labntp_files_unreadable_total", Number gauges.files_unreadable)
    ∷ (codes "gauge", codes "labntp_file_ok", samples.Files gauges.files)
    ∷ (codes "gauge", codes "labntp_start_time_seconds", Seconds (Some gauges.start_time))
    ∷ (codes "gauge", codes "labntp_build_info", samples.Version gauges.version) ∷ []

-- metrics have these rows, and each has some help in one line
pub record HaveRows (rows : List (List ℕ × List ℕ × Samples)) (metrics : List Metric) : Type 0 where
  pub are : map (λ m. (m.sort.now, m.name.now, m.samples)) metrics ≡ rows
  pub helps : list_all (λ m. list_all (λ c. not (c == 10)) m.help.now) metrics ≡ true

-- the statistics were written
pub record WritesStatistics (counts : Counts) (gauges : Gauges) (old new : Option (List ℕ)) : Type 0 where
  pub metrics : List Metric
  pub have : HaveRows (rows counts gauges) metrics
  pub written : Appends old new (flat_map (metric_text counts) metrics)
