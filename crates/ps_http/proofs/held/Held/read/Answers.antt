use Rattle.std.proofs.Common.{◌∙◌, ◌≡◌, ◌≤◌, ◌+◌, ◌++◌, List, ℕ, ap, take, drop, length, arith, length-take, length-drop, take-add}
use Rattle.std.proofs.lemmas.List.{take_at}
use Rattle.ps_http.proofs.held.Held.read.Goals as goal

pub returns-clause-ok : goal.returns-clause-ok
returns-clause-ok g c =
    let held = c.self.inside in
    let count = c.in_ok-count.count in
    let bytes : List ℕ = c.read_between.new.bytes in
    let came = c.in_ok-count.ensures.ok in
    let fits : held.count + count ≤ length bytes = omega (arith, came.within, c.requires.fits, c.self.invariant, c.read_between.ensures.len, ap length c.as_mut_slice.ensures.value) in
    let front = c.read_between.ensures.front ∙ ap (take held.count) c.as_mut_slice.ensures.value ∙ c.self.view_is in
    let written : take held.bytes.len (bytes ++ drop (length bytes) held.bytes.items) ≡ bytes = take_at bytes _ held.bytes.len (omega (arith, c.read_between.ensures.len, c.as_mut_slice.ensures.len)) in
    record {
      bytes = take count (drop held.count bytes);
      many = omega (arith, length-take count (drop held.count bytes), length-drop held.count bytes, fits);
      consumed = came.consumed;
      added = ap (take (held.count + count)) written ∙ take-add held.count count bytes ∙ ap (λ l. l ++ take count (drop held.count bytes)) front;
      ended = came.ended;
    }
