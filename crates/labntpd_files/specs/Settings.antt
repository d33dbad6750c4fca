-- What a configuration file says, or its first fault: each step gives a part, or the file's fault.
use Rattle.std.specs.Prelude.{◌≡◌, ◌⊎◌, ◌*◌, ◌^◌, ◌≤◌, if◌then◌else◌, ℕ, false, List, codes, Option, Some, None, Result, Ok, Err, IfSome}
use Rattle.std.specs.Option.{ok_or, option_map, option_map_or, option_or, unwrap_or}
use Rattle.std.specs.Result.{result_ok, result_err}
use Rattle.toml.specs.Data.{Data, Members, no_items, get_member, as_str, as_bool, as_array, as_table}
use Rattle.ntp_packet.specs.FirstCase.{◌>>=◌}
use Rattle.ntp_admin.specs.Words.{address_in, algorithm_in, reference_in}
use Rattle.ntp_mac.specs.declared.key.Algorithm.TheVariants.{Sha1}
use Rattle.labntpd_files.specs.declared.configuration.{Clock.Clock, ClockDaemon.ClockDaemon, Configuration.Configuration}
use Rattle.labntpd_files.specs.declared.configuration.Clock.TheVariants.{Fixed, Followed}
use Rattle.labntpd_files.specs.{declared.fault.ConfigurationFault.ConfigurationFault, declared.setting.Kind.Kind}
use Rattle.labntpd_files.specs.declared.fault.ConfigurationFault.TheVariants as fault
use Rattle.labntpd_files.specs.declared.setting.Kind.TheVariants as k
use Rattle.labntpd_files.specs.Keys.{Row, row, is_fixed, top_keys, clock_keys, unknown_in}
use Rattle.labntpd_files.specs.Values.{listen_in, endpoint_in, path_in, text_of, key_for, text_as, number_of, count_of}

-- what a fault says: the line, the key, or the key and what is wanted there
pub data Fault : Type 0 where
  toml : ℕ → Fault
  unknown : List ℕ → Fault
  unknown_of_clock : List ℕ → Fault
  missing : Row → Fault
  wanted : Row → Fault
  no_memory : Fault

abbrev pub said_by : ConfigurationFault → Fault
said_by (fault.Toml line) = toml line
said_by (fault.Unknown key) = unknown key
said_by (fault.UnknownOfClock key) = unknown_of_clock key
said_by (fault.Missing setting) = missing (row setting)
said_by (fault.Wanted setting) = wanted (row setting)
said_by fault.NoMemory = no_memory

-- what was read at a key, if it may be left out, and if it has to stand there
abbrev pub allowed : {X : Type 0} → Row → Option (Option X) → Result (Option X) Fault
allowed r None = Ok None
allowed r (Some read) = ok_or (option_map Some read) (wanted r)

abbrev pub needed : {X : Type 0} → Row → Option (Option X) → Result X Fault
needed r read = do
  value ← ok_or read (missing r)
  ok_or value (wanted r)

-- what stands at a key, read so
abbrev pub optional : {X : Type 0} → Row → (Data → Option X) → Members → Result (Option X) Fault
optional r read table = allowed r (option_map read (get_member r.0 table))

abbrev pub required : {X : Type 0} → Row → (Data → Option X) → Members → Result X Fault
required r read table = needed r (option_map read (get_member r.0 table))

-- what the word at a key says that has to stand there
abbrev pub word : {X : Type 0} → Row → (List ℕ → Option X) → Members → Result X Fault
word r read table = do
  text ← required r as_str table
  ok_or (read text) (wanted r)

-- what holds without the key
abbrev pub or_default : {X : Type 0} → X → Result (Option X) Fault → Result X Fault
or_default default found = found >>= (λ value. Ok (unwrap_or value default))

-- a count, in octets or units of time
abbrev pub count_in : Row → Members → Result (Option ℕ) Fault
count_in r = optional r (count_of r.1)

-- the daemon that keeps the host's clock
abbrev pub daemon_in : Members → Result ClockDaemon Fault
daemon_in clock = do
  source ← word (codes "source", k.Source) endpoint_in clock
  number ← required (codes "number", k.Number) number_of clock
  algorithm ← word (codes "algorithm", k.Algorithm) algorithm_in clock
  key_file ← required (codes "key_file", k.Path) (text_as path_in) clock
  valid_for ← or_default (16 * 10 ^ 9) (count_in (codes "valid_for", k.Seconds (10 ^ 9) (10 * 10 ^ 9) (3600 * 10 ^ 9)) clock)
  distance ← or_default (2 ^ 16) (count_in (codes "most_root_distance", k.Seconds (2 ^ 16) 1 (16 * 2 ^ 16)) clock)
  age ← count_in (codes "most_reference_age", k.Seconds 1 1 1000000) clock
  step ← or_default (500 * 10 ^ 6) (count_in (codes "most_step", k.Seconds (10 ^ 9) 1 (3600 * 10 ^ 9)) clock)
  Ok (record {
    source = source;
    number = number;
    algorithm = algorithm;
    key_file = key_file;
    valid_for = valid_for;
    most_root_distance = distance;
    most_reference_age = age;
    most_step = step;
  })

-- the clock: a reference state where its source is fixed, and a daemon otherwise
abbrev pub clock_in : Members → Result Clock Fault
clock_in document = do
  clock ← required (codes "clock", k.Table) as_table document
  if is_fixed clock
      then word (codes "reference", k.Reference) reference_in clock >>= (λ reference. Ok (Fixed reference))
      else daemon_in clock >>= (λ daemon. Ok (Followed daemon))

-- the files that a document names: of commands, answers, statistics and customers
abbrev pub files_in : Members → Result (List ℕ × Option (List ℕ) × Option (List ℕ) × Option (List ℕ)) Fault
files_in document = do
  commands ← required (codes "commands", k.Path) (text_as path_in) document
  answers ← optional (codes "answers", k.OptionalPath) (text_as path_in) document
  statistics ← optional (codes "statistics", k.OptionalPath) (text_as path_in) document
  customers ← optional (codes "customers", k.OptionalPath) (text_as path_in) document
  Ok (commands, answers, statistics, customers)

-- the settings of a document, each in its range, or the first fault in this order
abbrev pub settings_in : Members → Result Configuration Fault
settings_in document = do
  listen ← word (codes "listen", k.Listen) listen_in document
  served_as ← optional (codes "served_as", k.OptionalAddress) (text_as address_in) document
  files ← files_in document
  receive_buffer ← or_default 524288 (count_in (codes "receive_buffer", k.Octets) document)
  send_buffer ← or_default 1048576 (count_in (codes "send_buffer", k.Octets) document)
  longest_wait ← or_default (250 * 10 ^ 6) (count_in (codes "longest_wait", k.Seconds (10 ^ 9) (150 * 10 ^ 6) (60 * 10 ^ 9)) document)
  spin ← or_default false (optional (codes "spin", k.Boolean) as_bool document)
  clock ← clock_in document
  Ok (record {
    listen = listen;
    served_as = served_as;
    commands = files.0;
    answers = files.1;
    statistics = files.2;
    customers = files.3;
    receive_buffer = receive_buffer;
    send_buffer = send_buffer;
    longest_wait = longest_wait;
    spin = spin;
    clock = clock;
  })

-- what is read, whose texts are references, is said
abbrev pub IsSaid : {X V : Type 0} → (X → V) → Result V Fault → Result X ConfigurationFault → Type 0
IsSaid seen said (Ok value) = said ≡ Ok (seen value)
IsSaid seen said (Err why) = said ≡ Err (said_by why)

-- what is read is said, or memory ran out
abbrev pub Reads : {X : Type 0} → Result X Fault → Result X ConfigurationFault → Type 0
Reads said (Ok value) = said ≡ Ok value
Reads said (Err why) = (why ≡ fault.NoMemory) ⊎ (said ≡ Err (said_by why))

-- what is read of a word by a function with these results
abbrev pub IsRead : {X : Type 0} → (List ℕ → Option X → Type 0) → Row → Result (List ℕ) Fault → Result X ConfigurationFault → Type 0
IsRead Post r text (Ok value) = (octets : List ℕ) × (text ≡ Ok octets) × Post octets (Some value)
IsRead Post r text (Err why) =
    (text ≡ Err (said_by why)) ⊎ ((octets : List ℕ) × (text ≡ Ok octets) × Post octets None × (said_by why ≡ wanted r))

-- the ranges of the numbers for a daemon: nanoseconds, 2^-16 s, seconds, nanoseconds
pub record HasDaemonRanges (daemon : ClockDaemon) : Type 0 where
  pub valid_for : (10 * 10 ^ 9 ≤ daemon.valid_for) × (daemon.valid_for ≤ 3600 * 10 ^ 9)
  pub most_root_distance : (1 ≤ daemon.most_root_distance) × (daemon.most_root_distance ≤ 16 * 2 ^ 16)
  pub most_reference_age : IfSome daemon.most_reference_age (λ age. (1 ≤ age) × (age ≤ 1000000))
  pub most_step : (1 ≤ daemon.most_step) × (daemon.most_step ≤ 3600 * 10 ^ 9)

abbrev pub HasClockRanges : Clock → Type 0
HasClockRanges (Fixed reference) = Unit {0}
HasClockRanges (Followed daemon) = HasDaemonRanges daemon

-- the ranges of the numbers of a configuration: octets, nanoseconds, and those of its clock
pub record HasRanges (configuration : Configuration) : Type 0 where
  pub receive_buffer : (65536 ≤ configuration.receive_buffer) × (configuration.receive_buffer ≤ 1073741823)
  pub send_buffer : (65536 ≤ configuration.send_buffer) × (configuration.send_buffer ≤ 1073741823)
  pub longest_wait : (150 * 10 ^ 6 ≤ configuration.longest_wait) × (configuration.longest_wait ≤ 60 * 10 ^ 9)
  pub clock : HasClockRanges configuration.clock

-- the first key that is none, of the top level before those of the table `[clock]`
abbrev pub unknown_key : Members → Option Fault
unknown_key document =
    let clock = result_ok (required (codes "clock", k.Table) as_table document) in
    let there = option_map_or (λ table. unknown_in (clock_keys table) table) clock None in
    option_or (option_map unknown (unknown_in top_keys document)) (option_map unknown_of_clock there)

-- what a document says, or its first fault: a key that is none, else that of the settings
abbrev pub configuration_in : Members → Result Configuration Fault
configuration_in document = option_map_or Err (unknown_key document) (settings_in document)

-- what a text is read as: what its document says; or that it is none, in whichever line that shows (TOML 1.1)
abbrev pub IsReadAs : Option Members → Result Configuration ConfigurationFault → Type 0
IsReadAs None said = (line : ℕ) × (said ≡ Err (fault.Toml line))
IsReadAs (Some document) said = IsSaid (λ configuration. configuration) (configuration_in document) said

-- what is wrong at a key of a kind, whatever is wrong at the others: the fault that is read there
abbrev pub wrong_by : Kind → Row → Members → Option Fault
wrong_by k.Listen r table = result_err (word r listen_in table)
wrong_by k.Source r table = if is_fixed table then None else result_err (word r endpoint_in table)
wrong_by k.Path r table = result_err (required r (text_as path_in) table)
wrong_by k.Boolean r table = result_err (optional r as_bool table)
wrong_by k.Reference r table = result_err (word r reference_in table)
wrong_by k.Number r table = result_err (required r number_of table)
wrong_by k.Algorithm r table = result_err (word r algorithm_in table)
wrong_by k.Address r table = result_err (word r address_in table)
wrong_by k.OptionalAddress r table = result_err (optional r (text_as address_in) table)
wrong_by k.Key r table = result_err (word r (key_for Sha1) table)
wrong_by k.Table r table = result_err (required r as_table table)
wrong_by k.OptionalTable r table = result_err (optional r as_table table)
wrong_by k.Customers r table = result_err (or_default no_items (optional r as_array table))
wrong_by k.Octets r table = result_err (count_in r table)
wrong_by (k.Seconds units least most) r table = result_err (count_in r table)
wrong_by text r table = result_err (optional r (text_as (text_of r.1)) table)
