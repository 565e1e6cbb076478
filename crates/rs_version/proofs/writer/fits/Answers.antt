use Rattle.std.proofs.Common.{◌≡◌, ℕ, ◌-◌, ap}
use Rattle.rs_store.specs.Bytes.{bytes_at, bytes_of}
use Rattle.rs_version.specs.Catalogues.{content_of}
use Rattle.rs_version.proofs.Memory.{clear_fits, set_fits, set_fits_as, sweep_fits}
use Rattle.rs_version.proofs.writer.fits.Goals as goal

pub returns-then-wanted-free : goal.returns-then-wanted-free
returns-then-wanted-free c =
    let es = (content_of c.args.catalogue.now).retained in
    let t = c.in-Set.found.topic in
    let m = c.in-Set.found.message in
    let size : c.bytes_of-wanted.result ≡ bytes_of (t, m) = rw (c.topic-topic.ensures, c.message-message.ensures) at c.bytes_of-wanted.ensures.value in
    rw c.in-Set.is (set_fits es c.args.memory c.requires.small t m c.bytes_of-wanted.result (c.args.memory - c.bytes-used.result) c.requires.sorted (ap (λ (n : ℕ). c.args.memory - n) c.bytes-used.ensures) size c.if-wanted-free.true)

pub returns-else-wanted-free : goal.returns-else-wanted-free
returns-else-wanted-free c =
    let es = (content_of c.args.catalogue.now).retained in
    let t = c.in-Set.found.topic in
    let m = c.in-Set.found.message in
    let size : c.bytes_of-wanted.result ≡ bytes_of (t, m) = rw (c.topic-topic.ensures, c.message-message.ensures) at c.bytes_of-wanted.ensures.value in
    let old : c.bytes_at-replaced.result ≡ bytes_at t es = rw c.topic-topic.ensures at c.bytes_at-replaced.ensures in
    rw c.in-Set.is (set_fits_as es c.args.memory c.requires.small t m c.bytes_of-wanted.result (c.args.memory - c.bytes-used.result) c.bytes_at-replaced.result c.requires.sorted (ap (λ (n : ℕ). c.args.memory - n) c.bytes-used.ensures) size c.if-wanted-free.false old)

pub returns-in-Clear : goal.returns-in-Clear
returns-in-Clear c = rw c.in-Clear.is (clear_fits (content_of c.args.catalogue.now).retained c.args.memory c.requires.small c.in-Clear.field-0)

pub returns-in-Sweep : goal.returns-in-Sweep
returns-in-Sweep c = rw c.in-Sweep.is (sweep_fits (content_of c.args.catalogue.now).retained c.args.memory c.requires.small c.in-Sweep.field-0)
