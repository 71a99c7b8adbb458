-- What is written straight is the compact text, where the texts are plain.
use Rattle.std.proofs.Common.{◌≡◌, ℕ, ◌≤◌, true, false, List, [], ◌∷◌, ◌++◌, length, map, Option, Some, None, refl, sym, ap, ◌∙◌, arith, append_assoc, codes}
use Rattle.std.specs.List.{list_all}
use Rattle.json.specs.Print.{escape_byte, quoted}
use Rattle.serde_json.specs.Data.{Data, put, string}
use Rattle.serde_json.specs.View.{items_of}
use Rattle.serde_json.specs.Written.{compact_text, items_text, members_text}
use Rattle.ps_time.specs.Length.{length_text_of}
use Rattle.ps_time.specs.Name.{is_name}
use Rattle.ps_time.specs.Numbers.{greatest_length}
use Rattle.ps_time.proofs.PictureLemmas.{and_true}
use Rattle.plugin_core.proofs.BoundLemmas.{hosts_few}
use Rattle.plugin_core.specs.Bounds.{AreHosts, IsSleep, IsTest}
use Rattle.plugin_core.specs.Kind.{kind_text, test_kind}
use Rattle.plugin_core.specs.WriteTest.{length_data, names_data, sleep_members, spec_members, test_data}
use Rattle.plugin_core.specs.declared.test_spec.Sleep.{Sleep}
use Rattle.plugin_core.specs.declared.test_spec.TestSpec.{TestSpec}
use Rattle.plugin_core.specs.declared.test_spec.TestSpec.TheVariants.{Idle, Idleex, Idlebgm, Idlemany, Simplestream}
use Rattle.plugin_text.proofs.PlainLemmas.{escape_plain, length_plain, name_plain}
use Rattle.plugin_text.specs.Plain.{is_plain, is_plain_note, is_plain_sleep, is_plain_test}
use Rattle.plugin_text.specs.Straight.{with_duration, with_hosts, with_kind, with_length, with_names, with_notes, with_sleep, with_stream, with_test, with_text}

-- the members of what is measured, and what stands around them
whole_text : (test : TestSpec) → compact_text (test_data test) ≡ codes "{\"spec\":{" ++ (members_text false (spec_members test) ++ (codes ",\"type\":" ++ (quoted (kind_text (test_kind test)) ++ codes "}")))
unfolding escape_byte
whole_text test = refl

kind_last : (out members kind : List ℕ) → is_plain kind ≡ true → out ++ codes "}" ≡ codes "{\"spec\":{" ++ members → with_kind out kind ≡ codes "{\"spec\":{" ++ (members ++ (codes ",\"type\":" ++ (quoted kind ++ codes "}")))
kind_last out members kind plain same =
    let rest : List ℕ = codes ",\"type\":\"" ++ (kind ++ codes "\"}") in
    let first : with_kind out kind ≡ (out ++ codes "}") ++ rest = simp append_assoc in
    let last : (codes "{\"spec\":{" ++ members) ++ rest ≡ codes "{\"spec\":{" ++ (members ++ (codes ",\"type\":" ++ (quoted kind ++ codes "}"))) = simp (append_assoc, escape_plain kind plain) in
    first ∙ ap (λ l. l ++ rest) same ∙ last

abbrev sleep : ℕ → Option (List ℕ) → Option (List ℕ) → Sleep
sleep d s p = record { duration = d; starting_comment = s; parting_comment = p }

idle_members : (d : ℕ) (s p : Option (List ℕ)) → is_plain (length_text_of d) ≡ true → is_plain_note s ≡ true → is_plain_note p ≡ true
    → with_notes (with_duration [] (sleep d s p)) (sleep d s p) ++ codes "}" ≡ codes "{\"spec\":{" ++ members_text false (spec_members (Idle (sleep d s p)))
unfolding escape_byte
idle_members d None None plain first last = simp (append_assoc, escape_plain (length_text_of d) plain)
idle_members d None (Some p) plain first last = simp (append_assoc, escape_plain (length_text_of d) plain, escape_plain p last)
idle_members d (Some s) None plain first last = simp (append_assoc, escape_plain (length_text_of d) plain, escape_plain s first)
idle_members d (Some s) (Some p) plain first last = simp (append_assoc, escape_plain (length_text_of d) plain, escape_plain s first, escape_plain p last)

-- a duration and what follows it, without brackets to the left
abbrev begun : ℕ → List ℕ → List ℕ
begun d more = codes "{\"spec\":{\"duration\":\"" ++ (length_text_of d ++ 34 ∷ more)

begins : (z : Sleep) (more : List ℕ) → with_duration [] z ++ more ≡ begun z.duration more
begins z more = ap (λ l. codes "{\"spec\":{\"duration\":\"" ++ l) (append_assoc (length_text_of z.duration) (34 ∷ []) more)

paced_members : (d : ℕ) (s p : Option (List ℕ)) (x : Data) → is_plain (length_text_of d) ≡ true → is_plain_note s ≡ true → is_plain_note p ≡ true
    → with_notes (begun d (codes ",\"interval\":" ++ compact_text x)) (sleep d s p) ++ codes "}" ≡ codes "{\"spec\":{" ++ members_text false (put (codes "interval") x (sleep_members (sleep d s p)))
unfolding escape_byte
paced_members d None None x plain first last = simp (append_assoc, escape_plain (length_text_of d) plain)
paced_members d None (Some p) x plain first last = simp (append_assoc, escape_plain (length_text_of d) plain, escape_plain p last)
paced_members d (Some s) None x plain first last = simp (append_assoc, escape_plain (length_text_of d) plain, escape_plain s first)
paced_members d (Some s) (Some p) x plain first last = simp (append_assoc, escape_plain (length_text_of d) plain, escape_plain s first, escape_plain p last)

many_members : (d : ℕ) (s p : Option (List ℕ)) (x : Data) → is_plain (length_text_of d) ≡ true → is_plain_note s ≡ true → is_plain_note p ≡ true
    → with_notes (begun d (codes ",\"hosts\":" ++ compact_text x)) (sleep d s p) ++ codes "}" ≡ codes "{\"spec\":{" ++ members_text false (put (codes "hosts") x (sleep_members (sleep d s p)))
unfolding escape_byte
many_members d None None x plain first last = simp (append_assoc, escape_plain (length_text_of d) plain)
many_members d None (Some p) x plain first last = simp (append_assoc, escape_plain (length_text_of d) plain, escape_plain p last)
many_members d (Some s) None x plain first last = simp (append_assoc, escape_plain (length_text_of d) plain, escape_plain s first)
many_members d (Some s) (Some p) x plain first last = simp (append_assoc, escape_plain (length_text_of d) plain, escape_plain s first, escape_plain p last)

interval_text : (out : List ℕ) (interval : ℕ) → is_plain (length_text_of interval) ≡ true → with_length out (codes ",\"interval\":\"") interval ≡ out ++ (codes ",\"interval\":" ++ compact_text (length_data interval))
interval_text out interval plain = simp (append_assoc, escape_plain (length_text_of interval) plain)

names_text : (out : List ℕ) (names : List (List ℕ)) → list_all is_name names ≡ true → with_names out names ≡ out ++ items_text true (items_of (map string names))
names_text out [] named = refl
names_text out (x ∷ xs) named =
    let both = and_true (is_name x) (list_all is_name xs) named in
    names_text (with_text out (codes ",\"") x) xs both.1 ∙ simp (append_assoc, escape_plain x (name_plain x both.0))

hosts_text : (out : List ℕ) (hosts : List (List ℕ)) → list_all is_name hosts ≡ true → 2 ≤ length hosts → with_hosts out hosts ≡ out ++ (codes ",\"hosts\":" ++ compact_text (names_data hosts))
hosts_text out [] named some = absurd (omega arith)
hosts_text out (x ∷ xs) named some =
    let both = and_true (is_name x) (list_all is_name xs) named in
    names_text (with_text out (codes ",\"hosts\":[\"") x) xs both.1 ∙ simp (append_assoc, escape_plain x (name_plain x both.0))

stream_members : (dest material : List ℕ) (dawdle timeout : ℕ) → is_plain dest ≡ true → is_plain material ≡ true → is_plain (length_text_of dawdle) ≡ true → is_plain (length_text_of timeout) ≡ true
    → with_stream [] dest material dawdle timeout ++ codes "}" ≡ codes "{\"spec\":{" ++ members_text false (spec_members (Simplestream dest material dawdle timeout))
unfolding escape_byte
stream_members dest material dawdle timeout named plain first last =
    simp (append_assoc, escape_plain dest named, escape_plain material plain, escape_plain (length_text_of dawdle) first, escape_plain (length_text_of timeout) last)

sleep_straight : (z : Sleep) (kind : List ℕ) → IsSleep z → is_plain_sleep z ≡ true → is_plain kind ≡ true
    → with_sleep [] z kind ≡ codes "{\"spec\":{" ++ (members_text false (sleep_members z) ++ (codes ",\"type\":" ++ (quoted kind ++ codes "}")))
sleep_straight z kind is plain named =
    let notes = and_true (is_plain_note z.starting_comment) (is_plain_note z.parting_comment) plain in
    kind_last (with_notes (with_duration [] z) z) (members_text false (sleep_members z)) kind named (idle_members z.duration z.starting_comment z.parting_comment (length_plain z.duration is.short) notes.0 notes.1)

paced_straight : (z : Sleep) (interval : ℕ) → IsSleep z → is_plain_sleep z ≡ true → interval ≤ greatest_length → with_test [] (Idlebgm z interval) ≡ compact_text (test_data (Idlebgm z interval))
paced_straight z interval is plain short =
    let notes = and_true (is_plain_note z.starting_comment) (is_plain_note z.parting_comment) plain in
    let members = paced_members z.duration z.starting_comment z.parting_comment (length_data interval) (length_plain z.duration is.short) notes.0 notes.1 in
    ap (λ out. with_kind (with_notes out z) (codes "idlebgm")) (interval_text (with_duration [] z) interval (length_plain interval short) ∙ begins z (codes ",\"interval\":" ++ compact_text (length_data interval)))
    ∙ kind_last _ (members_text false (spec_members (Idlebgm z interval))) (codes "idlebgm") refl members
    ∙ sym (whole_text (Idlebgm z interval))

many_straight : (z : Sleep) (hosts : List (List ℕ)) → IsSleep z → is_plain_sleep z ≡ true → AreHosts hosts → with_test [] (Idlemany z hosts) ≡ compact_text (test_data (Idlemany z hosts))
many_straight z hosts is plain are =
    let notes = and_true (is_plain_note z.starting_comment) (is_plain_note z.parting_comment) plain in
    let members = many_members z.duration z.starting_comment z.parting_comment (names_data hosts) (length_plain z.duration is.short) notes.0 notes.1 in
    ap (λ out. with_kind (with_notes out z) (codes "idlemany")) (hosts_text (with_duration [] z) hosts are.names (hosts_few hosts are.differ).0 ∙ begins z (codes ",\"hosts\":" ++ compact_text (names_data hosts)))
    ∙ kind_last _ (members_text false (spec_members (Idlemany z hosts))) (codes "idlemany") refl members
    ∙ sym (whole_text (Idlemany z hosts))

pub test_straight : (test : TestSpec) → IsTest test → is_plain_test test ≡ true → with_test [] test ≡ compact_text (test_data test)
test_straight (Idle z) is plain = sleep_straight z (codes "idle") is plain refl ∙ sym (whole_text (Idle z))
test_straight (Idleex z) is plain = sleep_straight z (codes "idleex") is plain refl ∙ sym (whole_text (Idleex z))
test_straight (Idlebgm z i) is plain = paced_straight z i is.0 plain (omega (arith, is.0.short, is.1.within))
test_straight (Idlemany z h) is plain = many_straight z h is.0 plain is.1
test_straight (Simplestream to m w t) is plain =
    let members = stream_members to m w t (name_plain to is.dest) plain (length_plain w (omega (arith, is.short))) (length_plain t (omega (arith, is.short))) in
    kind_last (with_stream [] to m w t) (members_text false (spec_members (Simplestream to m w t))) (codes "simplestream") refl members ∙ sym (whole_text (Simplestream to m w t))
