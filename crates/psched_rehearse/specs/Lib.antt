pub use Rattle.rehearsal_lines.specs.Playing
pub use Rattle.rehearsal_lines.specs.Ready
