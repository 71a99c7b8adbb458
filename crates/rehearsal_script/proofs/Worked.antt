-- The grammar, computed: lines after two declared hosts, and whole scripts.
use Rattle.std.proofs.Common.{◌≡◌, ℕ, pos, negsuc, List, [], ◌∷◌, ◌++◌, Result, Ok, Err, refl}
use Rattle.std.specs.Prelude.{codes}
use Rattle.ps_disks.specs.declared.image.Image.TheVariants.{Torn}
use Rattle.ps_time.specs.declared.class.Class.TheVariants.{Normal, Exclusive}
use Rattle.limit_apply.specs.Open.{open_config, open_text}
use Rattle.limit_apply.proofs.OpenLemmas.{open_again}
use Rattle.rehearsal_script.specs.Script.{line_of, script_of}
use Rattle.rehearsal_script.specs.declared.lines.Content.{Content}
use Rattle.rehearsal_script.specs.declared.lines.Content.TheVariants.{Nothing, NewHost, Event}
use Rattle.rehearsal_script.specs.declared.script.Reason.{Reason}
use Rattle.rehearsal_script.specs.declared.script.Reason.TheVariants.{NotUtf8, UnknownWord, WrongNumberOfFields, BadNumber, BadName, NoSuchHost, RepeatedHost, BadClass, BadTool, BadImage}
use Rattle.rehearsal_script.specs.declared.script.ScriptFault.TheVariants.{Refused}
use Rattle.rehearsal_script.specs.declared.script.ScriptHost.{ScriptHost}
use Rattle.rehearsal_script.specs.declared.script.ScriptLine.TheVariants.{Host, Tools, Limits, Book, Post, Get, Delete, Turn, Archive, Crash, Fail, Deliver, Repeat, Lose}
use Rattle.rehearsal_script.proofs.OnLiterals.{script_on_literals}

abbrev declared : List ScriptHost
declared = record { name = codes "a"; number = 1 } ∷ record { name = codes "deliver"; number = 2 } ∷ []

-- what a line says after these hosts
abbrev says : List ℕ → Result Content Reason
says line = line_of declared line

read_lines :
    (says [] ≡ Ok Nothing)
    × (says (codes "# host b 3") ≡ Ok Nothing)
    × (says (codes "host b 3") ≡ Ok (NewHost (record { name = codes "b"; number = 3 })))
    × (says (codes "tools a sleep,snooze") ≡ Ok (Event (Tools 0 (codes "sleep" ∷ codes "snooze" ∷ []))))
    × (says (codes "5 a book normal -5 100 10") ≡ Ok (Event (Book 5 0 Normal (negsuc 4) 100 10)))
    × (says (codes "0000000005 deliver book exclusive -0 0 1") ≡ Ok (Event (Book 5 1 Exclusive (pos 0) 0 1)))
    × (says (codes "5 a post 10.0.0.1 {\"x\":  1}") ≡ Ok (Event (Post 5 0 (codes "10.0.0.1") (codes "{\"x\":  1}"))))
    × (says (codes "5 a post  ") ≡ Ok (Event (Post 5 0 [] [])))
    × (says (codes "5 a get /x?y") ≡ Ok (Event (Get 5 0 (codes "/x?y"))))
    × (says (codes "5 a get ") ≡ Ok (Event (Get 5 0 [])))
    × (says (codes "5 deliver delete 10.0.0.1 /x") ≡ Ok (Event (Delete 5 1 (codes "10.0.0.1") (codes "/x"))))
    × (says (codes "5 a turn") ≡ Ok (Event (Turn 5 0)))
    × (says (codes "5 deliver turn") ≡ Ok (Event (Turn 5 1)))
    × (says (codes "5 a archive") ≡ Ok (Event (Archive 5 0)))
    × (says (codes "5 deliver 7") ≡ Ok (Event (Deliver 5 7)))
    × (says (codes "5 a crash 4 torn") ≡ Ok (Event (Crash 5 0 (record { call = 4; image = Torn }))))
    × (says (codes "5 a fail 4") ≡ Ok (Event (Fail 5 0 4)))
    × (says (codes "5 repeat 0") ≡ Ok (Event (Repeat 5 0)))
    × (says (codes "lose 9999999999") ≡ Ok (Event (Lose 9999999999)))
unfolding script_on_literals
read_lines = (refl, refl, refl, refl, refl, refl, refl, refl, refl, refl, refl, refl, refl, refl, refl, refl, refl, refl, refl)

-- the limits are the rest of the line
read_limits : says (codes "limits a " ++ open_text) ≡ Ok (Event (Limits 0 open_config))
unfolding script_on_literals
read_limits = rw open_again refl

refused_lines :
    (says (35 ∷ 255 ∷ []) ≡ Err NotUtf8)
    × (says (codes "5 a") ≡ Err UnknownWord)
    × (says (codes "5 a turns") ≡ Err UnknownWord)
    × (says (codes "5 a fails 1") ≡ Err UnknownWord)
    × (says (codes "5 deliver fail") ≡ Err WrongNumberOfFields)
    × (says (codes "x A book loud") ≡ Err WrongNumberOfFields)
    × (says (codes "tools a sleep snooze") ≡ Err WrongNumberOfFields)
    × (says (codes "limits a") ≡ Err WrongNumberOfFields)
    × (says (codes "5 a post 10.0.0.1") ≡ Err WrongNumberOfFields)
    × (says (codes "x B fail 1 old") ≡ Err WrongNumberOfFields)
    × (says (codes "5 deliver") ≡ Err WrongNumberOfFields)
    × (says (codes "x a turn") ≡ Err BadNumber)
    × (says (codes "host B 0") ≡ Err BadNumber)
    × (says (codes "4102444801 A get /x") ≡ Err BadNumber)
    × (says (codes "5 repeat 00000000001") ≡ Err BadNumber)
    × (says (codes "lose -1") ≡ Err BadNumber)
    × (says (codes "5 b fail -1") ≡ Err BadNumber)
    × (says (codes "host B 1") ≡ Err BadName)
    × (says (codes "tools A ping") ≡ Err BadName)
    × (says (codes "5  archive") ≡ Err BadName)
    × (says (codes "5 b book loud 0 100 10") ≡ Err NoSuchHost)
    × (says (codes "limits b {") ≡ Err NoSuchHost)
    × (says (codes "5 b fail 1") ≡ Err NoSuchHost)
    × (says (codes "host b 2") ≡ Err RepeatedHost)
    × (says (codes "5 a book loud 0 100 10") ≡ Err BadClass)
    × (says (codes "tools a ") ≡ Err BadTool)
    × (says (codes "tools a ping") ≡ Err BadTool)
    × (says (codes "tools a sleep,snooze,sleep") ≡ Err BadTool)
    × (says (codes "5 a crash 4 older") ≡ Err BadImage)
unfolding script_on_literals
refused_lines = (refl, refl, refl, refl, refl, refl, refl, refl, refl, refl, refl, refl, refl, refl, refl, refl, refl, refl, refl, refl, refl, refl, refl, refl, refl, refl, refl, refl, refl)

read_script : script_of (codes "# one\nhost a 1\n\n0 a turn\nlose 1") ≡ Ok (record {
  hosts = record { name = codes "a"; number = 1 } ∷ [];
  lines = record { number = 2; line = Host 0 } ∷ record { number = 4; line = Turn 0 0 } ∷ record { number = 5; line = Lose 1 } ∷ [];
})
unfolding script_on_literals
read_script = refl

refused_script : script_of (codes "host a 1\n0 b book loud 0 100 10\nhost a 1\n") ≡ Err (Refused 2 NoSuchHost)
unfolding script_on_literals
refused_script = refl
