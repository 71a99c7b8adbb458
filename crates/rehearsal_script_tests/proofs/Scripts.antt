-- Whole scripts, line by line, computed.
use Rattle.std.specs.Fmt.{digits}
use Rattle.std.specs.Prelude.{◌∷◌, ◌++◌, ◌≡◌, List, Ok, Result, [], codes, negsuc, pos, ℕ}
use Rattle.std.proofs.Common.{refl}
use Rattle.std.specs.Str.{chars, is_utf8}
use lib.Utf8.{encode}
use Rattle.json.specs.Print.{escape_byte}
use Rattle.serde_json.proofs.OnLiterals.{serde_json_on_literals}
use Rattle.ps_disks.specs.declared.image.Image.TheVariants.{New, Old, Torn}
use Rattle.ps_time.specs.declared.class.Class.TheVariants.{Background, BackgroundMulti, Exclusive, Normal}
use Rattle.limit_ident.specs.ReadIdentifiers.{condition_of}
use Rattle.limit_rule.specs.ReadLimits.{rule_of}
use Rattle.limit_apply.specs.Read.{config_in, parts_of}
use Rattle.rehearsal_script.specs.Script.{script_of}
use Rattle.rehearsal_script.specs.declared.script.Numbered.{Numbered}
use Rattle.rehearsal_script.specs.declared.script.Script.{Script}
use Rattle.rehearsal_script.specs.declared.script.ScriptFault.{ScriptFault}
use Rattle.rehearsal_script.specs.declared.script.ScriptHost.{ScriptHost}
use Rattle.rehearsal_script.specs.declared.script.ScriptLine.{ScriptLine}
use Rattle.rehearsal_script.specs.declared.script.ScriptLine.TheVariants.{Archive, Book, Crash, Delete, Deliver, Fail, Get, Host, Limits, Lose, Post, Repeat, Tools, Turn}
use Rattle.rehearsal_script.proofs.OnLiterals.{script_on_literals}

abbrev host : List ℕ → ℕ → ScriptHost
host name number = record { name = name; number = number }

abbrev line : ℕ → ScriptLine → Numbered
line number said = record { number = number; line = said }

abbrev read : List ScriptHost → List Numbered → Result Script ScriptFault
read hosts lines = Ok (record { hosts = hosts; lines = lines })

nothing : script_of [] ≡ read [] []
unfolding script_on_literals
nothing = refl

two_bookings : script_of (codes "host a 1\n50 a book exclusive 0 100 50\n50 a book exclusive 0 150 50\n")
    ≡ read (host (codes "a") 1 ∷ []) (line 1 (Host 0) ∷ line 2 (Book 50 0 Exclusive (pos 0) 100 50) ∷ line 3 (Book 50 0 Exclusive (pos 0) 150 50) ∷ [])
unfolding script_on_literals
two_bookings = refl

bounds : script_of (codes "# bounds\nhost a 1\n\n10 a book normal -0 100 50\nhost b.c-2 65535\n0000000010 b.c-2 book background-multi -1000 4102444800 315360000\n0 a book background 1000 0 1")
    ≡ read (host (codes "a") 1 ∷ host (codes "b.c-2") 65_535 ∷ []) (
    line 2 (Host 0) ∷ line 4 (Book 10 0 Normal (pos 0) 100 50) ∷ line 5 (Host 1) ∷
    line 6 (Book 10 1 BackgroundMulti (negsuc 999) 4_102_444_800 315_360_000) ∷ line 7 (Book 0 0 Background (pos 1000) 0 1) ∷ [])
unfolding script_on_literals
bounds = refl

every_word : script_of (codes "host a 1\nhost b 2\ntools b sleep\ntools a simplestreamer,snooze,sleepbgm,sleep\n5 b turn\n4102444800 a archive\n6 deliver 1\n6 repeat 0\nlose 9999999999\n7 b crash 4 new\n8 a crash 0000000000 old\n9 a crash 9999999999 torn\n9 b fail 0\n4102444800 a fail 9999999999\n")
    ≡ read (host (codes "a") 1 ∷ host (codes "b") 2 ∷ []) (
    line 1 (Host 0) ∷ line 2 (Host 1) ∷ line 3 (Tools 1 (codes "sleep" ∷ [])) ∷
    line 4 (Tools 0 (codes "simplestreamer" ∷ codes "snooze" ∷ codes "sleepbgm" ∷ codes "sleep" ∷ [])) ∷
    line 5 (Turn 5 1) ∷ line 6 (Archive 4_102_444_800 0) ∷ line 7 (Deliver 6 1) ∷ line 8 (Repeat 6 0) ∷ line 9 (Lose 9_999_999_999) ∷
    line 10 (Crash 7 1 (record { call = 4; image = New })) ∷ line 11 (Crash 8 0 (record { call = 0; image = Old })) ∷ line 12 (Crash 9 0 (record { call = 9_999_999_999; image = Torn })) ∷
    line 13 (Fail 9 1 0) ∷ line 14 (Fail 4_102_444_800 0 9_999_999_999) ∷ [])
unfolding script_on_literals
every_word = refl

-- the address may be none, and the JSON too; 195 and 164 are the bytes of one letter
requests : script_of (codes "host a 1\n0 a post 10.0.0.1 {\"a\": 1, \"b\":  [ ] }\n1 a post  \n2 a post x {} \r\n3 a post " ++ 195 ∷ 164 ∷ codes " no json  at all\n4 a get /pscheduler/tasks?x\n5 a get \n6 a delete not-an-address x\n7 a delete  \n")
    ≡ read (host (codes "a") 1 ∷ []) (
    line 1 (Host 0) ∷ line 2 (Post 0 0 (codes "10.0.0.1") (codes "{\"a\": 1, \"b\":  [ ] }")) ∷ line 3 (Post 1 0 [] []) ∷ line 4 (Post 2 0 (codes "x") (codes "{} \r")) ∷
    line 5 (Post 3 0 (195 ∷ 164 ∷ []) (codes "no json  at all")) ∷ line 6 (Get 4 0 (codes "/pscheduler/tasks?x")) ∷ line 7 (Get 5 0 []) ∷
    line 8 (Delete 6 0 (codes "not-an-address") (codes "x")) ∷ line 9 (Delete 7 0 [] []) ∷ [])
unfolding script_on_literals
requests = refl

-- hosts that are called as words are
called_as_words : script_of (codes "host deliver 1\nhost turn 2\nhost host 3\n1 deliver turn\n2 deliver 7\n3 turn turn\n4 host book normal 0 5 6\n5 turn get deliver\n6 repeat 8\n")
    ≡ read (host (codes "deliver") 1 ∷ host (codes "turn") 2 ∷ host (codes "host") 3 ∷ []) (
    line 1 (Host 0) ∷ line 2 (Host 1) ∷ line 3 (Host 2) ∷ line 4 (Turn 1 0) ∷ line 5 (Deliver 2 7) ∷ line 6 (Turn 3 1) ∷
    line 7 (Book 4 2 Normal (pos 0) 5 6) ∷ line 8 (Get 5 1 (codes "deliver")) ∷ line 9 (Repeat 6 8) ∷ [])
unfolding script_on_literals
called_as_words = refl

-- ---- of limits the text is seen: compact, and without comments
pub data Seen : Type 0 where
  HostAt : (place : ℕ) → Seen
  LimitsOf : (host : ℕ) (text : List ℕ) → Seen
  Other : Seen

abbrev seen_line : ScriptLine → Seen
seen_line (Host place) = HostAt place
seen_line (Limits place limits) = LimitsOf place limits.text
seen_line _ = Other

abbrev seen_lines : List Numbered → List Seen
seen_lines [] = []
seen_lines (l ∷ ls) = seen_line l.line ∷ seen_lines ls

abbrev seen : Result Script ScriptFault → List Seen
seen (Ok script) = seen_lines script.lines
seen _ = []

with_comments : seen (script_of (codes "host a 1\nlimits a {\"# note\": \"open to all\", \"identifiers\": [{\"name\":\"all\", \"type\":\"always\"}], \"classifiers\":[{\"name\":\"all\",\"identifiers\":[\"all\"]}], \"limits\":[{\"name\":\"anything\",\"type\":\"pass-fail\",\"data\":{\"pass\":true}}], \"applications\":[{\"classifier\":\"all\",\"apply\":[{\"require\":\"all\",\"limits\":[\"anything\"]}]}]} \n"))
    ≡ HostAt 0 ∷ LimitsOf 0 (codes "{\"applications\":[{\"apply\":[{\"limits\":[\"anything\"],\"require\":\"all\"}],\"classifier\":\"all\"}],\"classifiers\":[{\"identifiers\":[\"all\"],\"name\":\"all\"}],\"identifiers\":[{\"name\":\"all\",\"type\":\"always\"}],\"limits\":[{\"data\":{\"pass\":true},\"name\":\"anything\",\"type\":\"pass-fail\"}]}") ∷ []
unfolding script_on_literals serde_json_on_literals is_utf8 chars encode escape_byte digits config_in parts_of condition_of rule_of
with_comments = refl

behind_blanks : seen (script_of (codes "host a 1\nlimits a  {\"identifiers\":[{\"name\":\"all\",\"type\":\"always\"}],\"classifiers\":[{\"name\":\"all\",\"identifiers\":[\"all\"]}],\"limits\":[{\"name\":\"no way\",\"type\":\"pass-fail\"}],\"applications\":[{\"classifier\":\"all\",\"apply\":[{\"require\":\"all\",\"limits\":[\"no way\"]}]}]}\n"))
    ≡ HostAt 0 ∷ LimitsOf 0 (codes "{\"applications\":[{\"apply\":[{\"limits\":[\"no way\"],\"require\":\"all\"}],\"classifier\":\"all\"}],\"classifiers\":[{\"identifiers\":[\"all\"],\"name\":\"all\"}],\"identifiers\":[{\"name\":\"all\",\"type\":\"always\"}],\"limits\":[{\"name\":\"no way\",\"type\":\"pass-fail\"}]}") ∷ []
unfolding script_on_literals serde_json_on_literals is_utf8 chars encode escape_byte digits config_in parts_of condition_of rule_of
behind_blanks = refl
