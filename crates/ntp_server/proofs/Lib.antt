mod Looking
mod Making
